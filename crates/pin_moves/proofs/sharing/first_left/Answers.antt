use Rattle.std.proofs.Common.{arith, rules}
use Rattle.std.proofs.lemmas.List.Sorted.{IsPartitionPoint-from_clause}
use Rattle.lb_types_pins.specs.declared.kind.Row.{Row}
use Rattle.pin_moves.proofs.Taking.{passed, partitioned, found, ordered_rows}
use Rattle.pin_moves.proofs.sharing.first_left.Goals as goal

pub returns : goal.returns
returns c =
    let left = c.args.left.now in
    let kind = c.args.kind in
    let ordered = ordered_rows left c.requires.ordered in
    let point = IsPartitionPoint-from_clause (passed (λ (r : Row). r.kind) (λ (r : Row). r.count) kind) _ _ c.partition_point.ensures.partitioned
    (partitioned (λ (r : Row). r.kind) (λ (r : Row). r.count) left kind ordered) (λ a r q k. search rules) in
    let first = found (λ (r : Row). r.kind) (λ (r : Row). r.count) left kind c.partition_point.result ordered
    (λ k d below. point.0 k d (omega arith) below) (λ k d from below. point.1 k d from below) c.requires.some in
    record { within = first.within; kind = first.same; some = first.some; first = first.first }
