use Rattle.std.proofs.Common.{◌≡◌, length}
use Rattle.std.specs.Slice.Iter.{iter_rest}
use Rattle.pin_recent.specs.Sound.{picked}
use Rattle.pin_recent.proofs.iter.IterIterator.next.Given as goal

-- what was passed over were holes
abbrev pub invariant-loop-place : goal.invariant-loop-place
invariant-loop-place g l = picked l.self-inside.pairs.now (iter_rest l.self-inside.places) ≡ l.fn.self

abbrev pub decreases-loop-place : goal.decreases-loop-place
decreases-loop-place g l = length (iter_rest l.self-inside.places)
