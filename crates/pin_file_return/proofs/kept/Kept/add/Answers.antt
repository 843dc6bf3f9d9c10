use Rattle.std.proofs.Common.{◌≡◌, true, refl, sym, ap, ◌∙◌}
use Rattle.pin_file_return.specs.Returns.{is_named}
use Rattle.pin_file_return.proofs.Stacks.{added, named_in}
use Rattle.pin_file_return.proofs.kept.Kept.add.Goals as goal

pub returns-then-contains_key : goal.returns-then-contains_key
returns-then-contains_key g c =
    let there : is_named c.args.set.name c.args.self.now ≡ true =
    ap (is_named c.args.set.name) (sym c.self.view_is)
    ∙ (named_in c.args.set.name c.self.inside.stays.entries ∙ (sym c.contains_key.ensures ∙ c.if-contains_key.true)) in
    rw there refl

pub returns : goal.returns
returns g c =
    added c.self.inside.stays c.args.set.name _ c.insert.new.self.entries c.args.self.now c.self.view_is
    (sym c.contains_key.ensures ∙ c.if-contains_key.false) c.in_ok-insert.ensures.entries
