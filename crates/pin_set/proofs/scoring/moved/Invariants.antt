use Rattle.std.proofs.Common.{◌≡◌, ℕ, ◌≤◌, take, count_by}
use Rattle.pin_set.specs.Costs.{is_moved}
use Rattle.pin_set.proofs.Moves.{moves_of}
use Rattle.pin_set.proofs.scoring.moved.Given as goal

abbrev pub invariant-loop-i : goal.invariant-loop-i
invariant-loop-i l =
    ((usable : ℕ) → l.moved ≡ count_by (λ m. is_moved m.0 m.1) (take l.i (moves_of usable l.pins l.places))) × (l.moved ≤ l.i)
