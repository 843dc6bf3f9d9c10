use Rattle.std.proofs.Common.{◌≡◌, length}
use Rattle.lb_types_text.specs.Parts.{parts}
use Rattle.haproxy_admin.specs.Columns.{has_column}
use Rattle.haproxy_admin.proofs.row.has_column.Given as goal

abbrev pub invariant-loop-column : goal.invariant-loop-column
invariant-loop-column l = has_column l.fn.name l.names ≡ has_column l.fn.name (parts 32 l.fn.columns)

abbrev pub decreases-loop-column : goal.decreases-loop-column
decreases-loop-column l = length l.names
