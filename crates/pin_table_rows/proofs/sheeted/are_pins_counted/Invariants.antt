use Rattle.std.proofs.Common.{ℕ, ◌<◌, length, get_or}
use Rattle.pin_set.specs.declared.pin.Pin.{Pin}
use Rattle.pin_set.specs.declared.pin_count.PinCount.{PinCount}
use Rattle.pin_table_rows.proofs.Counted.{PinsCounted}
use Rattle.pin_table_rows.proofs.sheeted.are_pins_counted.Given as goal

abbrev pub invariant-loop-pin : goal.invariant-loop-pin
invariant-loop-pin l = (k : ℕ) (d : Pin) → k < l.pin-index
    → PinsCounted l.pins l.counts (get_or l.pins k d).place (get_or l.pins k d).id.want (get_or l.pins k d).cost

abbrev pub invariant-loop-count : goal.invariant-loop-count
invariant-loop-count l = ((k : ℕ) (d : Pin) → k < length l.pins
    → PinsCounted l.pins l.counts (get_or l.pins k d).place (get_or l.pins k d).id.want (get_or l.pins k d).cost)
    × ((k : ℕ) (d : PinCount) → k < l.count-index
    → PinsCounted l.pins l.counts (get_or l.counts k d).place (get_or l.counts k d).want (get_or l.counts k d).cost)
