use Rattle.std.proofs.Common.{◌≡◌, ◌+◌, ◌≤◌, ◌++◌, length}
use Rattle.lb_types_text.specs.Parts.{parts}
use Rattle.lb_config_words.specs.Lines.{lines_from, lines_of}
use Rattle.lb_config_words.proofs.text.split_lines.Given as goal

abbrev pub invariant-loop-line : goal.invariant-loop-line
invariant-loop-line l =
    (l.lines.items ++ lines_from l.number (parts 10 l.rest) ≡ lines_of l.fn.text) × (l.number + length l.rest ≤ 1 + length l.fn.text)

abbrev pub decreases-loop-line : goal.decreases-loop-line
decreases-loop-line l = length l.rest
