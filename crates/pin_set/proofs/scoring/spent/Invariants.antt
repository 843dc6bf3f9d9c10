use Rattle.std.proofs.Common.{◌≡◌, ℕ, ◌*◌, ◌≤◌, take}
use Rattle.std.specs.List.{sum_by}
use Rattle.pin_set.specs.Costs.{move_cost}
use Rattle.pin_set.proofs.Moves.{moves_of}
use Rattle.pin_set.proofs.scoring.spent.Given as goal

abbrev pub invariant-loop-i : goal.invariant-loop-i
invariant-loop-i l =
    ((usable : ℕ) → l.spent ≡ sum_by (λ m. move_cost m.0 m.1) (take l.i (moves_of usable l.pins l.to))) × (l.spent ≤ 1000 * l.i)
