use Rattle.std.proofs.Common.{◌≡◌, ◌<◌, ◌≤◌, Some, length, ap, sym, subst, ◌∙◌}
use Rattle.std.specs.Map.{lookup}
use Rattle.pin_counts.specs.Counts.{HasOneMore}
use Rattle.pin_recent.specs.Recent.{InOrder}
use Rattle.pin_set.specs.declared.pin.PinId.{PinId}
use Rattle.pin_table.specs.declared.held.Held.{Held}
use Rattle.lb_desk_model.specs.Serves.{IsNew}
use Rattle.pin_table.specs.declared.table_kind.TableKind.{TableKind}
use Rattle.pin_table.specs.Counted.{listed, AreCounted}
use Rattle.pin_table.specs.Kinds.{same_kind, counted_of}
use Rattle.pin_table.specs.Pins.{held_pin, IsTakenOut}
use Rattle.pin_set.specs.Names.{names_decide}
use Rattle.pin_table.proofs.Found.{absent}
use Rattle.pin_table.proofs.Used.{taken_out}
use Rattle.pin_table.proofs.Counting.{some_between, counted-out, fewer-out, if_none}
use Rattle.pin_table.proofs.counted_pins.CountedPins.take_out.Goals as goal

pub remove-requires : goal.remove-requires
remove-requires g c =
    let kept = c.self.inside in
    let name = c.args.name.now in
    let held = c.in_ok-held.held in
    let t = taken_out _ names_decide name held kept.pins.pairs c.self.invariant.apart (sym c.in_ok-held.ensures.old) in
    subst (λ (k : TableKind). 0 < counted_of kept.counts k) (sym c.of.ensures)
    (some_between kept.counts t.0 (held_pin name held) t.1 (listed kept.pins.pairs) t.2.is c.self.invariant.counted)

pub invariant_of-self : goal.invariant_of-self
invariant_of-self g c =
    let kept = c.self.inside in
    subst (λ (r : InOrder PinId Held). AreCounted (listed r.pairs) kept.counts) (sym c.in_err-held.ensures.kept) c.self.invariant

pub invariant_of-self-2 : goal.invariant_of-self-2
invariant_of-self-2 g c =
    let kept = c.self.inside in
    let new = c.remove.new.self in
    let name = c.args.name.now in
    let held = c.in_ok-held.held in
    let t = taken_out _ names_decide name held kept.pins.pairs c.self.invariant.apart (sym c.in_ok-held.ensures.old) in
    subst (λ l. AreCounted (listed l) new) (sym c.in_ok-held.ensures.left)
    (counted-out kept.counts new name held (listed kept.pins.pairs) _ c.self.invariant t
    (subst (λ (k : TableKind). HasOneMore same_kind new k kept.counts) c.of.ensures c.remove.ensures))

pub returns-clause-some : goal.returns-clause-some
returns-clause-some g c =
    let kept = c.self.inside in
    let name = c.args.name.now in
    let held = c.in_ok-held.held in
    let t = taken_out _ names_decide name held kept.pins.pairs c.self.invariant.apart (sym c.in_ok-held.ensures.old) in
    subst (λ u. IsTakenOut name held u.pins (listed c.take_out.new.self.pairs)) c.self.view_is
    (subst (λ l. IsTakenOut name held (listed kept.pins.pairs) (listed l)) (sym c.in_ok-held.ensures.left) t)

pub returns-clause-len : goal.returns-clause-len
returns-clause-len g c =
    let kept = c.self.inside in
    let name = c.args.name.now in
    let held = c.in_ok-held.held in
    let t = taken_out _ names_decide name held kept.pins.pairs c.self.invariant.apart (sym c.in_ok-held.ensures.old) in
    subst (λ u. length (listed c.take_out.new.self.pairs) ≤ length u.pins) c.self.view_is
    (subst (λ l. length (listed l) ≤ length (listed kept.pins.pairs)) (sym c.in_ok-held.ensures.left)
    (fewer-out name held (listed kept.pins.pairs) _ t))

pub returns-in_err-held-clause-none : goal.returns-in_err-held-clause-none
returns-in_err-held-clause-none g c =
    if_none c.from_residual.result
    (subst (λ u. IsNew c.args.name.now u.pins) c.self.view_is
    (absent _ names_decide c.args.name.now c.self.inside.pins.pairs (sym c.in_err-held.ensures.old)))
