use Rattle.std.proofs.Common.{IfSome, IfNone, subst, ◌∙◌}
use Rattle.lb_desk_model.specs.Serves.{IsNew}
use Rattle.pin_table.specs.Pins.{Stands}
use Rattle.pin_set.specs.Names.{names_decide}
use Rattle.pin_table.proofs.Found.{found_all, absent_all}
use Rattle.pin_table.proofs.counted_pins.CountedPins.find.Goals as goal

pub returns-clause-some : goal.returns-clause-some
returns-clause-some g c =
    subst (λ u. IfSome c.copied.result (λ held. Stands c.args.name.now held u.pins)) c.self.view_is
    (found_all _ names_decide c.args.name.now c.self.inside.pins.pairs c.copied.result (c.copied.ensures ∙ c.find.ensures))

pub returns-clause-none : goal.returns-clause-none
returns-clause-none g c =
    subst (λ u. IfNone c.copied.result (IsNew c.args.name.now u.pins)) c.self.view_is
    (absent_all _ names_decide c.args.name.now c.self.inside.pins.pairs c.copied.result (c.copied.ensures ∙ c.find.ensures))
