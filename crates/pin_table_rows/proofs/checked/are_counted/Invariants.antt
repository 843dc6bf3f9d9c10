use Rattle.std.proofs.Common.{ℕ, ◌<◌, length, get_or}
use Rattle.lb_types_pins.specs.declared.kind.Row.{Row}
use Rattle.pin_set.specs.declared.pin_count.PinCount.{PinCount}
use Rattle.pin_groups.specs.Counts.{counted_kind}
use Rattle.pin_table_rows.proofs.Counted.{Counted}
use Rattle.pin_table_rows.proofs.checked.are_counted.Given as goal

abbrev pub invariant-loop-row : goal.invariant-loop-row
invariant-loop-row l = (k : ℕ) (d : Row) → k < l.row-index → Counted l.usable l.rows l.counts (get_or l.rows k d).kind

abbrev pub invariant-loop-count : goal.invariant-loop-count
invariant-loop-count l = ((k : ℕ) (d : Row) → k < length l.rows → Counted l.usable l.rows l.counts (get_or l.rows k d).kind)
    × ((k : ℕ) (d : PinCount) → k < l.count-index → Counted l.usable l.rows l.counts (counted_kind l.usable (get_or l.counts k d)))
