use Rattle.std.proofs.Common.{◌≡◌, count_by, is_some}
use Rattle.keyed_values.proofs.keyed.Keyed.destroy_empty.Given as goal

abbrev pub invariant-loop-place : goal.invariant-loop-place
invariant-loop-place g l = count_by is_some l.places.items ≡ 0

abbrev pub decreases-loop-place : goal.decreases-loop-place
decreases-loop-place g l = goal.left-loop-place g l
