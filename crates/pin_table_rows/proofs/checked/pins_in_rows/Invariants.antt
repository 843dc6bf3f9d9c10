use Rattle.std.proofs.Common.{◌≡◌, take}
use Rattle.dual_cert_plan.specs.Plans.{pins_in_rows}
use Rattle.pin_table_rows.proofs.checked.pins_in_rows.Given as goal

abbrev pub invariant-loop-row : goal.invariant-loop-row
invariant-loop-row l = l.pins ≡ pins_in_rows l.kind (take l.row-index l.rows)
