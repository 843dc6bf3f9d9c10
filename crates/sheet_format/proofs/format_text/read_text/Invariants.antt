use Rattle.std.proofs.Common.{◌≡◌, ◌+◌, ◌≤◌, length}
use Rattle.lb_types_text.specs.Parts.{parts}
use Rattle.sheet_format.specs.Texts.{said_by, said_from}
use Rattle.sheet_format.proofs.format_text.read_text.Given as goal

-- the lines that are left, behind what was read, say what all of them do
abbrev pub invariant-loop-line : goal.invariant-loop-line
invariant-loop-line l =
    (said_from l.number l.reading (parts 10 l.rest) ≡ said_by l.fn.text)
    × (l.number + length l.rest ≤ 1 + length l.fn.text)

abbrev pub decreases-loop-line : goal.decreases-loop-line
decreases-loop-line l = length l.rest
