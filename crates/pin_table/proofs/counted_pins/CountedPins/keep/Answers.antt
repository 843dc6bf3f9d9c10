use Rattle.std.proofs.Common.{◌+◌, cond, refl, ap, sym, subst, ◌∙◌}
use Rattle.lb_desk_model.specs.Serves.{StandsBetween}
use Rattle.pin_table.specs.Counted.{listed, AreCounted}
use Rattle.pin_table.specs.Pins.{Stands}
use Rattle.pin_set.specs.Names.{names_decide}
use Rattle.pin_table.proofs.Found.{stands_found}
use Rattle.pin_table.proofs.Used.{touched_used}
use Rattle.pin_table.proofs.Counting.{counted-used}
use Rattle.pin_table.proofs.counted_pins.CountedPins.keep.Goals as goal

pub invariant_of-self : goal.invariant_of-self
invariant_of-self g c =
    let kept = c.self.inside in
    let stands = subst (λ u. Stands c.args.name.now c.args.held u.pins) (sym c.self.view_is) c.requires.stands in
    subst (λ l. AreCounted (listed l) kept.counts) (sym c.touch.ensures.touched)
    (counted-used kept.counts kept.counts _ names_decide c.args.name.now c.args.held c.args.held.place c.args.now kept.pins.pairs c.self.invariant stands (λ kind. refl))

pub returns-clause-used : goal.returns-clause-used
returns-clause-used g c = λ before found after between.
    let stands = subst (λ u. Stands c.args.name.now c.args.held u.pins) (sym c.self.view_is) c.requires.stands in
    ap listed c.touch.ensures.touched
    ∙ touched_used _ names_decide c.args.name.now c.args.held c.args.held.place c.args.now c.self.inside.pins.pairs c.self.invariant.apart stands
    before found after (subst (λ u. StandsBetween c.args.name.now u.pins before found after) (sym c.self.view_is) between)

pub returns-clause-uses : goal.returns-clause-uses
returns-clause-uses g c =
    let kept = c.self.inside.pins in
    let stands = subst (λ u. Stands c.args.name.now c.args.held u.pins) (sym c.self.view_is) c.requires.stands in
    c.touch.ensures.uses
    ∙ ap (λ b. kept.uses + cond b 1 0) (stands_found _ names_decide c.args.name.now kept.pairs c.args.held stands c.touch.result c.touch.ensures.old)
    ∙ ap (λ u. u.uses + 1) c.self.view_is
