use Rattle.std.proofs.Common.{◌≡◌, length}
use Rattle.std.specs.List.{list_any, after_first}
use Rattle.set_cookie.specs.Lines.{lines_of, is_empty}
use Rattle.set_cookie.proofs.lines.after_head.Given as goal

abbrev pub invariant-loop-line : goal.invariant-loop-line
invariant-loop-line l =
    (list_any is_empty (lines_of l.rest) ≡ list_any is_empty (lines_of l.fn.bytes)) × (after_first is_empty (lines_of l.rest) ≡ after_first is_empty (lines_of l.fn.bytes))

abbrev pub decreases-loop-line : goal.decreases-loop-line
decreases-loop-line l = length (lines_of l.rest)
