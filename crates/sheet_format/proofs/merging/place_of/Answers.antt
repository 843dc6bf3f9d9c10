use Rattle.std.proofs.Common.{arith, rules}
use Rattle.std.proofs.lemmas.List.Sorted.{IsPartitionPoint-from_clause}
use Rattle.lb_types_pins.specs.Kinds.{kind_before}
use Rattle.pin_groups.proofs.Order.{rising_partitioned}
use Rattle.sheet_format.proofs.merging.place_of.Goals as goal

pub returns-clause-before : goal.returns-clause-before
returns-clause-before c =
    let kind = c.args.wanted.now.kind in
    let point = IsPartitionPoint-from_clause (λ g. kind_before g.kind kind) _ _ c.partition_point.ensures.partitioned (rising_partitioned c.args.groups.now kind c.requires.rising) (λ a r q k. search rules) in
    λ k d below. point.0 k d (omega arith) below

pub returns-clause-behind : goal.returns-clause-behind
returns-clause-behind c =
    let kind = c.args.wanted.now.kind in
    let point = IsPartitionPoint-from_clause (λ g. kind_before g.kind kind) _ _ c.partition_point.ensures.partitioned (rising_partitioned c.args.groups.now kind c.requires.rising) (λ a r q k. search rules) in
    λ k d from below. point.1 k d from below
