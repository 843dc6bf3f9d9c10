use Rattle.std.proofs.Common.{◌≡◌, ℕ, ◌<◌, true, get_or}
use Rattle.lb_types_pins.specs.Kinds.{kind_before}
use Rattle.pin_set.specs.declared.pin_count.PinCount.{PinCount}
use Rattle.pin_moves.specs.Moves.{counted_pins}
use Rattle.pin_table_rows.proofs.checked.stand_before.Given as goal

abbrev pub invariant-loop-count : goal.invariant-loop-count
invariant-loop-count l = (k : ℕ) (d : PinCount) → k < l.count-index
    → kind_before (counted_pins (get_or l.earlier k d)) (counted_pins l.later) ≡ true
