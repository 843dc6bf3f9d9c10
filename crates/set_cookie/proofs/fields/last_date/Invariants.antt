use Rattle.std.proofs.Common.{◌≡◌, length, None}
use Rattle.set_cookie.specs.Lines.{lines_of}
use Rattle.set_cookie.specs.Scans.{date_after}
use Rattle.set_cookie.proofs.fields.last_date.Given as goal

abbrev pub invariant-loop-line : goal.invariant-loop-line
invariant-loop-line l = date_after l.found (lines_of l.rest) ≡ date_after None (lines_of l.fn.fields)

abbrev pub decreases-loop-line : goal.decreases-loop-line
decreases-loop-line l = length (lines_of l.rest)
