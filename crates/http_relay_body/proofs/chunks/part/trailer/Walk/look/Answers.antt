use Rattle.std.proofs.Common.{arith}
use Rattle.http_relay_body.proofs.Walks.{walked_on, walked_whole, walked_through, never_here}
use Rattle.http_relay_body.proofs.chunks.part.trailer.Walk.look.Goals as goal

pub loop-self-preserved : goal.loop-self-preserved
loop-self-preserved c =
    walked_on c.args.text.now c.loop-self.self c.in-On.place c.fields_ended.result c.loop-self.invariant (omega (arith, c.loop-self-test.true))
    (rw c.in-On.is at c.behind.ensures) c.fields_ended.ensures.0 c.fields_ended.ensures.1

pub look_whole-requires-clause-section : goal.look_whole-requires-clause-section
look_whole-requires-clause-section c =
    walked_whole c.args.text.now c.loop-self.self c.loop-self.invariant (omega (arith, c.loop-self-test.true)) (rw c.in-End.is at c.behind.ensures)

pub returns-in-Never-clause-sees : goal.returns-in-Never-clause-sees
returns-in-Never-clause-sees c =
    never_here c.args.text.now c.loop-self.self c.loop-self.invariant (omega (arith, c.loop-self-test.true)) (rw c.in-Never.is at c.behind.ensures)

pub look_short-requires-clause-stands : goal.look_short-requires-clause-stands
look_short-requires-clause-stands c =
    walked_through c.args.text.now c.loop-self.self c.loop-self.invariant (omega (arith, c.loop-self-test.false))
