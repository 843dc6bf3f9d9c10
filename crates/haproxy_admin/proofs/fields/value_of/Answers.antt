use Rattle.std.proofs.Common.{sym, ◌∙◌}
use Rattle.haproxy_admin.proofs.Words.{value_here}
use Rattle.haproxy_admin.proofs.fields.value_of.Goals as goal

pub returns-in-Some-value_in : goal.returns-in-Some-value_in
returns-in-Some-value_in c =
    let here = value_here c.args.name.now c.loop-word.words c.in-Some.word.now c.in-Some-value_in.value.now c.next_part.new.self c.in-Some.ensures.first c.in-Some-value_in.ensures in
    sym here ∙ c.loop-word.invariant
