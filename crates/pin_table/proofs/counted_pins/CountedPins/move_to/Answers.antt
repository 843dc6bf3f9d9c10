use Rattle.std.proofs.Common.{◌+◌, ◌^◌, ◌<◌, Some, cond, length, ap, sym, subst, ◌∙◌}
use Rattle.pin_counts.specs.Counts.{HasChanged}
use Rattle.lb_desk_model.specs.Serves.{StandsBetween}
use Rattle.pin_table.specs.declared.table_kind.TableKind.{TableKind}
use Rattle.pin_table.specs.Counted.{listed, AreCounted}
use Rattle.pin_table.specs.Kinds.{kind_of, same_kind, counted_of}
use Rattle.pin_table.specs.Pins.{held_pin, Stands}
use Rattle.pin_set.specs.Names.{names_decide}
use Rattle.pin_table.proofs.Found.{stands_found}
use Rattle.pin_table.proofs.Used.{held_in, touched_used}
use Rattle.pin_table.proofs.Counting.{fits, some_between, counted-used}
use Rattle.pin_table.proofs.counted_pins.CountedPins.move_to.Goals as goal

pub change-requires-clause-present : goal.change-requires-clause-present
change-requires-clause-present g c =
    let kept = c.self.inside in
    let stands = subst (λ u. Stands c.args.name.now c.args.held u.pins) (sym c.self.view_is) c.requires.stands in
    subst (λ (k : TableKind). 0 < counted_of kept.counts k) (sym c.of-from.ensures)
    (some_between kept.counts stands.0 (held_pin c.args.name.now c.args.held) stands.1 (listed kept.pins.pairs) stands.2.is c.self.invariant.counted)

pub change-requires-clause-fits : goal.change-requires-clause-fits
change-requires-clause-fits g c =
    let few = subst (λ u. length u.pins < 2 ^ 32) (sym c.self.view_is) c.requires.few in
    fits c.self.inside.counts (listed c.self.inside.pins.pairs) c.self.invariant.counted few c.of-to.result

pub invariant_of-self-2 : goal.invariant_of-self-2
invariant_of-self-2 g c =
    let kept = c.self.inside in
    let new = c.change.new.self in
    let place = Some c.args.server in
    let stands = subst (λ u. Stands c.args.name.now c.args.held u.pins) (sym c.self.view_is) c.requires.stands in
    let changed = subst (λ (k : TableKind). HasChanged same_kind kept.counts k (kind_of (held_pin c.args.name.now (held_in c.args.held place c.args.now))) new) c.of-from.ensures
    (subst (λ (k : TableKind). HasChanged same_kind kept.counts c.of-from.result k new) c.of-to.ensures c.in_ok-change.ensures.ok) in
    subst (λ l. AreCounted (listed l) new) (sym c.touch.ensures.touched)
    (counted-used kept.counts new _ names_decide c.args.name.now c.args.held place c.args.now kept.pins.pairs c.self.invariant stands changed)

pub returns-clause-used : goal.returns-clause-used
returns-clause-used g c = λ before found after between.
    let stands = subst (λ u. Stands c.args.name.now c.args.held u.pins) (sym c.self.view_is) c.requires.stands in
    ap listed c.touch.ensures.touched
    ∙ touched_used _ names_decide c.args.name.now c.args.held (Some c.args.server) c.args.now c.self.inside.pins.pairs c.self.invariant.apart stands
    before found after (subst (λ u. StandsBetween c.args.name.now u.pins before found after) (sym c.self.view_is) between)

pub returns-clause-uses : goal.returns-clause-uses
returns-clause-uses g c =
    let kept = c.self.inside.pins in
    let stands = subst (λ u. Stands c.args.name.now c.args.held u.pins) (sym c.self.view_is) c.requires.stands in
    c.touch.ensures.uses
    ∙ ap (λ b. kept.uses + cond b 1 0) (stands_found _ names_decide c.args.name.now kept.pairs c.args.held stands c.touch.result c.touch.ensures.old)
    ∙ ap (λ u. u.uses + 1) c.self.view_is
