use Rattle.std.proofs.Common.{◌≡◌, take}
use Rattle.pin_groups.specs.Counts.{counted_with}
use Rattle.pin_table_rows.proofs.sheeted.counted_with.Given as goal

abbrev pub invariant-loop-count : goal.invariant-loop-count
invariant-loop-count l = l.pins ≡ counted_with (take l.count-index l.counts) l.of.place l.of.want l.of.cost
