use Rattle.std.proofs.Common.{◌≡◌, ◌+◌, drop}
use Rattle.std.specs.List.{position_or_len}
use Rattle.set_cookie.specs.Dates.{is_date_mark}
use Rattle.set_cookie.proofs.dates.word_len.Given as goal

abbrev pub invariant-loop-i : goal.invariant-loop-i
invariant-loop-i l = l.i + position_or_len is_date_mark (drop l.i l.text) ≡ position_or_len is_date_mark l.text
