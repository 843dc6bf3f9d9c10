use Rattle.command_socket_serve.proofs.Trimming.{ends, goes_on, nothing}
use Rattle.command_socket_serve.proofs.request.up_to_last_word.Goals as goal

pub loop-last-preserved : goal.loop-last-preserved
loop-last-preserved c =
    goes_on c.args.line.now c.loop-last.text.now c.in-Some.rest.now c.in-Some.last.now c.in-Some.ensures.cases.0 c.if-not-parts_words.ensures
    c.loop-last.invariant

pub returns-then-not-parts_words : goal.returns-then-not-parts_words
returns-then-not-parts_words c =
    ends c.args.line.now c.loop-last.text.now c.in-Some.rest.now c.in-Some.last.now c.in-Some.ensures.cases.0 c.if-not-parts_words.ensures
    c.loop-last.invariant

pub returns-in_default : goal.returns-in_default
returns-in_default c = nothing c.args.line.now c.loop-last.text.now c.in_default.ensures.cases c.loop-last.invariant
