use Rattle.std.proofs.Common.{◌≡◌, ◌<◌, length, sym, ◌∙◌, arith}
use Rattle.std.proofs.lemmas.Bool.Decides.{nat_tests}
use Rattle.set_cookie.proofs.Words.{mark_here}
use Rattle.set_cookie.proofs.dates.next_word.Goals as goal

pub loop-rest-preserved : goal.loop-rest-preserved
loop-rest-preserved c =
    let empty = sym c.is_empty-in-loop-rest.ensures ∙ c.if-not-is_empty.false in
    let none : length c.split_at.result.0.now ≡ 0 = grind (arith, nat_tests, empty) in
    let full = sym c.is_empty.ensures ∙ c.loop-rest-test.true in
    let some : 0 < length c.loop-rest.rest.now = grind (arith, nat_tests, full) in
    mark_here c.loop-rest.rest.now c.split_at.result.0.now _ c.word_len.result c.word_len.ensures.exact c.split_at.ensures.front none some c.split_at-in-loop-rest.ensures.back ∙ c.loop-rest.invariant
