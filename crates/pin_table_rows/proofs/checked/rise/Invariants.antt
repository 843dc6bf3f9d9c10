use Rattle.std.proofs.Common.{◌≡◌, ℕ, ◌<◌, ◌≤◌, true, get_or}
use Rattle.lb_types_pins.specs.Kinds.{kind_before}
use Rattle.pin_set.specs.declared.pin_count.PinCount.{PinCount}
use Rattle.pin_moves.specs.Moves.{counted_pins}
use Rattle.pin_table_rows.proofs.checked.rise.Given as goal

abbrev pub invariant-loop-i : goal.invariant-loop-i
invariant-loop-i l = ((k j : ℕ) (d : PinCount) → k < j → j < l.i → kind_before (counted_pins (get_or l.counts k d)) (counted_pins (get_or l.counts j d)) ≡ true)
    × ((k : ℕ) (d : PinCount) → k < l.i → 1 ≤ (get_or l.counts k d).count)
