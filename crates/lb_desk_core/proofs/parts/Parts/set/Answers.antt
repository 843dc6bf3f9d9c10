use Rattle.std.proofs.Common.{◌≡◌, false, not, Option, Some, None, is_some, true≢false, refl, sym, ap, ◌∙◌}
use Rattle.std.proofs.lemmas.Bool.{false≢true}
use Rattle.lb_types.specs.declared.table_settings.TableSettings.{TableSettings}
use Rattle.lb_desk_core.specs.Core.{CoreView}
use Rattle.lb_desk_core.proofs.SetPins.{unknown_set_on, no_table_on}
use Rattle.lb_desk_core.proofs.parts.Parts.set.Goals as goal

none_of : (o : Option TableSettings) → is_some o ≡ false → o ≡ None
none_of None e = refl
none_of (Some t) e = absurd (true≢false e)

pub returns-then-not-knows-clause-acts : goal.returns-then-not-knows-clause-acts
returns-then-not-knows-clause-acts g c =
    unknown_set_on c.args.self.now.shown c.args.set.now (λ exist. false≢true (sym c.if-not-knows.true ∙ c.knows.ensures.1 exist))

pub returns-then-is_none-clause-acts : goal.returns-then-is_none-clause-acts
returns-then-is_none-clause-acts g c =
    let shown = c.args.self.now.shown in
    let none : shown.table ≡ None =
    sym (ap (λ (v : CoreView). v.shown.table) c.self.view_is) ∙ none_of c.self.inside.settings (c.is_none.ensures ∙ ap not c.if-is_none.true) in
    no_table_on shown c.args.set.now (c.knows.ensures.0 c.if-not-knows.false) none
