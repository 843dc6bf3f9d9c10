use Rattle.std.proofs.Common.{◌≡◌, length, None}
use Rattle.std.specs.Option.{option_copied}
use Rattle.set_cookie.specs.Lines.{lines_of}
use Rattle.set_cookie.specs.Scans.{text_after}
use Rattle.set_cookie.proofs.fields.last_text.Given as goal

abbrev pub invariant-loop-line : goal.invariant-loop-line
invariant-loop-line l = text_after l.fn.name (option_copied l.found) (lines_of l.rest) ≡ text_after l.fn.name None (lines_of l.fn.fields)

abbrev pub decreases-loop-line : goal.decreases-loop-line
decreases-loop-line l = length (lines_of l.rest)
