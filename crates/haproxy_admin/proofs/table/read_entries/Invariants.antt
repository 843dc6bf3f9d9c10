use Rattle.std.proofs.Common.{◌≡◌, ◌+◌, ◌≤◌, length}
use Rattle.lb_types_text.specs.Parts.{parts}
use Rattle.haproxy_admin.specs.Lines.{said_from}
use Rattle.haproxy_admin.specs.Tables.{entry_said}
use Rattle.haproxy_admin.proofs.Lines.{after}
use Rattle.haproxy_admin.proofs.table.read_entries.Given as goal

-- the entries so far and those of what is left are all of them
abbrev pub invariant-loop-line : goal.invariant-loop-line
invariant-loop-line l =
    (after l.entries.items (said_from entry_said l.number l.lines) ≡ said_from entry_said 2 (parts 10 l.fn.text))
    × (l.number + length l.lines ≤ 3 + length l.fn.text)

abbrev pub decreases-loop-line : goal.decreases-loop-line
decreases-loop-line l = length l.lines
