use Rattle.std.proofs.Common.{◌≡◌, take, length}
use Rattle.pin_set.specs.Rows.{rows_least}
use Rattle.cert_check.specs.Verdict.{price_at}
use Rattle.cert_check.proofs.bound.least_total.Given as goal

abbrev pub invariant-loop-row : goal.invariant-loop-row
invariant-loop-row l = l.total ≡ rows_least l.unplaced_cost (price_at l.servers) (length l.servers) (take l.row-index l.rows)
