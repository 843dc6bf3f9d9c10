use Rattle.std.proofs.Common.{◌≡◌, cond, take}
use Rattle.std.specs.List.{sum_by}
use Rattle.lb_types_pins.specs.Kinds.{same_kind}
use Rattle.pin_groups.specs.Counts.{counted_kind}
use Rattle.pin_table_rows.proofs.checked.pins_counted.Given as goal

abbrev pub invariant-loop-count : goal.invariant-loop-count
invariant-loop-count l = l.pins ≡ sum_by (λ c. cond (same_kind l.kind (counted_kind l.usable c)) c.count 0) (take l.count-index l.counts)
