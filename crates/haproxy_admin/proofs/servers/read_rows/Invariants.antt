use Rattle.std.proofs.Common.{◌≡◌, ◌+◌, ◌^◌, ◌≤◌, length}
use Rattle.lb_types_text.specs.Parts.{parts}
use Rattle.haproxy_admin.specs.Lines.{said_from}
use Rattle.haproxy_admin.specs.Servers.{row_said}
use Rattle.haproxy_admin.proofs.Lines.{after}
use Rattle.haproxy_admin.proofs.servers.read_rows.Given as goal

-- the servers so far and those of what is left are all of them
abbrev pub invariant-loop-line : goal.invariant-loop-line
invariant-loop-line l =
    (after l.servers.items (said_from (row_said l.fn.backend (parts 32 l.fn.columns)) l.number l.lines) ≡ said_from (row_said l.fn.backend (parts 32 l.fn.columns)) 3 l.fn.lines)
    × (l.number + length l.lines ≤ 3 + 2 ^ 63)

abbrev pub decreases-loop-line : goal.decreases-loop-line
decreases-loop-line l = length l.lines
