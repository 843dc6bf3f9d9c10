use Rattle.std.proofs.Common.{◌≡◌, ◌+◌, ◌≤◌, length}
use Rattle.lb_types_text.specs.Parts.{parts}
use Rattle.pin_file.specs.Texts.{lines_at}
use Rattle.pin_file.proofs.pin_file_text.read_lines.Given as goal

-- the lines that are left, behind the draft, are read as all of them
abbrev pub invariant-loop-line : goal.invariant-loop-line
invariant-loop-line l =
    (lines_at l.number l.draft (parts 10 l.rest) ≡ lines_at 2 l.fn.draft (parts 10 l.fn.text))
    × (l.number + length l.rest ≤ 2 + length l.fn.text)

abbrev pub decreases-loop-line : goal.decreases-loop-line
decreases-loop-line l = length l.rest
