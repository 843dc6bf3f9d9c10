use Rattle.std.proofs.Common.{sym, ◌∙◌}
use Rattle.haproxy_admin.proofs.Columns.{no_word, word_here, word_later}
use Rattle.haproxy_admin.proofs.row.word_at.Goals as goal

pub returns-in_default-next_part : goal.returns-in_default-next_part
returns-in_default-next_part c =
    sym (no_word c.args.name.now c.in-Some.column.now c.loop-column.names c.loop-column.words c.next_part.new.self c.in-Some.ensures.first c.in_default-next_part.ensures.none.0) ∙ c.loop-column.invariant

pub returns-then-is_same : goal.returns-then-is_same
returns-then-is_same c =
    let same = sym c.is_same.ensures ∙ c.if-is_same.true in
    sym (word_here c.args.name.now c.in-Some.column.now c.in-Some-next_part.word.now c.loop-column.names c.loop-column.words c.next_part.new.self c.next_part-in-Some.new.self c.in-Some.ensures.first c.in-Some-next_part.ensures.first same)
    ∙ c.loop-column.invariant

pub loop-column-preserved : goal.loop-column-preserved
loop-column-preserved c =
    let other = sym c.is_same.ensures ∙ c.if-is_same.false in
    sym (word_later c.args.name.now c.in-Some.column.now c.in-Some-next_part.word.now c.loop-column.names c.loop-column.words c.next_part.new.self c.next_part-in-Some.new.self c.in-Some.ensures.first c.in-Some-next_part.ensures.first other)
    ∙ c.loop-column.invariant
