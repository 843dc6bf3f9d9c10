use Rattle.std.proofs.Common.{◌≡◌, length}
use Rattle.set_cookie.specs.Dates.{date_words}
use Rattle.set_cookie.proofs.dates.next_word.Given as goal

abbrev pub invariant-loop-rest : goal.invariant-loop-rest
invariant-loop-rest l = date_words l.rest ≡ date_words l.fn.text

abbrev pub decreases-loop-rest : goal.decreases-loop-rest
decreases-loop-rest l = length l.rest
