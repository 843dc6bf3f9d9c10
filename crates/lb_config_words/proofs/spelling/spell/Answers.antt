use Rattle.std.proofs.Common.{sym, ◌∙◌, rules}
use Rattle.lb_config_words.proofs.Groups.{reads_word, reads_fault, reads_too_many, reads_end, after_group_less}
use Rattle.lb_config_words.proofs.spelling.spell.Goals as goal

pub returns-then-len-eq-MAX_WORDS : goal.returns-then-len-eq-MAX_WORDS
returns-then-len-eq-MAX_WORDS c =
    let last = reads_too_many c.loop-first.words.items c.in-Some.first c.next_piece.new.self (search rules) (search rules) in
    c.broken_off.ensures ∙ sym last ∙ (rw c.in-Some.ensures.first at c.loop-first.invariant.0)

pub loop-first-preserved : goal.loop-first-preserved
loop-first-preserved c =
    let read = reads_word c.loop-first.words.items c.in-Ok.word c.in-Some.first c.next_piece.new.self (search rules) (search rules) (search rules) in
    search rules

pub loop-first-smaller : goal.loop-first-smaller
loop-first-smaller c =
    let less = after_group_less c.in-Some.first c.next_piece.new.self in
    search rules

pub returns-in-Err : goal.returns-in-Err
returns-in-Err c =
    let last = reads_fault c.loop-first.words.items c.in-Err.fault c.in-Some.first c.next_piece.new.self (search rules) (search rules) (search rules) in
    c.broken_off-in-Err.ensures ∙ sym last ∙ (rw c.in-Some.ensures.first at c.loop-first.invariant.0)

pub returns : goal.returns
returns c =
    let last = reads_end c.loop-first.words.items in
    search rules
