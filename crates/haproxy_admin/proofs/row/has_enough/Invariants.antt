use Rattle.std.proofs.Common.{◌≡◌, length}
use Rattle.lb_types_text.specs.Parts.{parts}
use Rattle.haproxy_admin.specs.Columns.{has_enough}
use Rattle.haproxy_admin.proofs.row.has_enough.Given as goal

abbrev pub invariant-loop-column : goal.invariant-loop-column
invariant-loop-column l = has_enough l.names l.words ≡ has_enough (parts 32 l.fn.columns) (parts 32 l.fn.line)

abbrev pub decreases-loop-column : goal.decreases-loop-column
decreases-loop-column l = length l.names
