use Rattle.std.proofs.Common.{◌≡◌, take}
use Rattle.pin_set.specs.Rows.{rows_cost}
use Rattle.cert_check.proofs.bound.cost.Given as goal

abbrev pub invariant-loop-row : goal.invariant-loop-row
invariant-loop-row l = l.total ≡ rows_cost l.unplaced_cost (take l.row-index l.rows)
