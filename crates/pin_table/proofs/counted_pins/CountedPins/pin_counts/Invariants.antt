use Rattle.std.proofs.Common.{◌≡◌, ◌++◌, map}
use Rattle.pin_table.proofs.Shared.{as_count}
use Rattle.pin_table.proofs.counted_pins.CountedPins.pin_counts.Given as goal

-- with what is still to come all counts are listed
abbrev pub invariant-loop-kind : goal.invariant-loop-kind
invariant-loop-kind g l = l.counts.items ++ map as_count l.kind-iterator ≡ map as_count l.initial.kind-iterator
