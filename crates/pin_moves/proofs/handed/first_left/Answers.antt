use Rattle.std.proofs.Common.{arith, rules}
use Rattle.std.proofs.lemmas.List.Sorted.{IsPartitionPoint-from_clause}
use Rattle.pin_moves.specs.declared.a_move.Move.{Move}
use Rattle.pin_moves.specs.Moves.{moved_pins}
use Rattle.pin_moves.proofs.Handing.{ordered_moves}
use Rattle.pin_moves.proofs.Taking.{passed, partitioned, found}
use Rattle.pin_moves.proofs.handed.first_left.Goals as goal

pub returns : goal.returns
returns c =
    let left = c.args.left.now in
    let pins = c.args.pins.now in
    let ordered = ordered_moves left c.requires.ordered in
    let point = IsPartitionPoint-from_clause (passed moved_pins (λ (m : Move). m.count) pins) _ _ c.partition_point.ensures.partitioned
    (partitioned moved_pins (λ (m : Move). m.count) left pins ordered) (λ a r q k. search rules) in
    let first = found moved_pins (λ (m : Move). m.count) left pins c.partition_point.result ordered
    (λ k d below. point.0 k d (omega arith) below) (λ k d from below. point.1 k d from below) c.requires.some in
    record { within = first.within; pins = first.same; some = first.some; first = first.first }
