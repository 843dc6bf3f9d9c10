use Rattle.std.proofs.Common.{◌≡◌, length}
use Rattle.lb_types_text.specs.Parts.{parts}
use Rattle.haproxy_admin.specs.Columns.{word_at}
use Rattle.haproxy_admin.proofs.row.word_at.Given as goal

abbrev pub invariant-loop-column : goal.invariant-loop-column
invariant-loop-column l = word_at l.fn.name l.names l.words ≡ word_at l.fn.name (parts 32 l.fn.columns) (parts 32 l.fn.line)

abbrev pub decreases-loop-column : goal.decreases-loop-column
decreases-loop-column l = length l.names
