use Rattle.std.proofs.Common.{◌<◌, subst, arith}
use Rattle.http_relay_dial.specs.Dials.{talk_of}
use Rattle.http_relay_talk.specs.Openings.{HasLeftQueue, Passes, reads_left}
use Rattle.http_relay_talk.specs.Shares.{records}
use Rattle.http_relay_talk.specs.declared.underway.Step.TheVariants.{Waits}
use Rattle.http_relay_talk.proofs.Passing.{passes_none, passes_on, reads_fewer, stays_out}
use Rattle.http_relay_talk.proofs.visiting.copy_through.Goals as goal

pub loop-answer-init : goal.loop-answer-init
loop-answer-init g c = record {
  room = c.requires.room;
  left = c.requires.left;
  fewer = omega arith;
  passes = λ own before h. passes_none g.P.Port.server_of
      (talk_of g.D.Connection.Wire.written g.D.Connection.Wire.reading g.D.Connection.Wire.faults) c.args.target.now c.args.request.now own before
      (talk_of g.C.Wire.written g.C.Wire.reading g.C.Wire.faults c.args.client.now)
      (records g.P.Port.entries g.P.Port.refusals g.D.Dialer.dials g.D.Dialer.talks g.D.Dialer.failures c.args.port.now (g.K.Clock.told c.args.clock.now) c.args.dialer.now)
      (g.K.Clock.pauses c.args.clock.now) (Waits c.args.underway) h;
}

pub returns-in-Done-clause-passes : goal.returns-in-Done-clause-passes
returns-in-Done-clause-passes g c own before h = subst (λ step. Passes g.P.Port.server_of
    (talk_of g.D.Connection.Wire.written g.D.Connection.Wire.reading g.D.Connection.Wire.faults) c.args.target.now c.args.request.now own before
    (talk_of g.C.Wire.written g.C.Wire.reading g.C.Wire.faults c.go_on-step.new.client)
    (records g.P.Port.entries g.P.Port.refusals g.D.Dialer.dials g.D.Dialer.talks g.D.Dialer.failures c.args.port.now (g.K.Clock.told c.args.clock.now) c.args.dialer.now)
    (records g.P.Port.entries g.P.Port.refusals g.D.Dialer.dials g.D.Dialer.talks g.D.Dialer.failures c.go_on-step.new.port (g.K.Clock.told c.go_on-step.new.clock) c.go_on-step.new.dialer)
    (g.K.Clock.pauses c.args.clock.now) (g.K.Clock.pauses c.go_on-step.new.clock) step) c.in-Done.is
    (passes_on g.P.Port.server_of
    (talk_of g.D.Connection.Wire.written g.D.Connection.Wire.reading g.D.Connection.Wire.faults) c.args.target.now c.args.request.now own before
    (talk_of g.C.Wire.written g.C.Wire.reading g.C.Wire.faults c.loop-answer.client) (talk_of g.C.Wire.written g.C.Wire.reading g.C.Wire.faults c.go_on-step.new.client)
    (records g.P.Port.entries g.P.Port.refusals g.D.Dialer.dials g.D.Dialer.talks g.D.Dialer.failures c.args.port.now (g.K.Clock.told c.args.clock.now) c.args.dialer.now)
    (records g.P.Port.entries g.P.Port.refusals g.D.Dialer.dials g.D.Dialer.talks g.D.Dialer.failures c.loop-answer.port (g.K.Clock.told c.loop-answer.clock) c.loop-answer.dialer)
    (records g.P.Port.entries g.P.Port.refusals g.D.Dialer.dials g.D.Dialer.talks g.D.Dialer.failures c.go_on-step.new.port (g.K.Clock.told c.go_on-step.new.clock) c.go_on-step.new.dialer)
    (g.K.Clock.pauses c.args.clock.now) (g.K.Clock.pauses c.loop-answer.clock) (g.K.Clock.pauses c.go_on-step.new.clock) c.loop-answer.underway c.go_on-step.result
    (c.loop-answer.invariant.passes own before h) c.loop-answer.invariant.left (λ more stands. c.go_on-step.ensures.steps more before stands) c.go_on-step.ensures.pauses)

pub returns-in-Done-clause-fewer : goal.returns-in-Done-clause-fewer
returns-in-Done-clause-fewer g c =
    let less = subst (λ step. reads_left g.D.Connection.Wire.reading step < reads_left g.D.Connection.Wire.reading (Waits c.loop-answer.underway)) c.in-Done.is
    (reads_fewer c.args.target.now.queue g.D.Connection.Wire.reading c.loop-answer.underway c.go_on-step.result c.loop-answer.invariant.left c.go_on-step.ensures.nears) in
    omega (arith, less, c.loop-answer.invariant.fewer)

pub returns-then-count-room-clause-passes : goal.returns-then-count-room-clause-passes
returns-then-count-room-clause-passes g c own before h = subst (λ step. Passes g.P.Port.server_of
    (talk_of g.D.Connection.Wire.written g.D.Connection.Wire.reading g.D.Connection.Wire.faults) c.args.target.now c.args.request.now own before
    (talk_of g.C.Wire.written g.C.Wire.reading g.C.Wire.faults c.go_on-step.new.client)
    (records g.P.Port.entries g.P.Port.refusals g.D.Dialer.dials g.D.Dialer.talks g.D.Dialer.failures c.args.port.now (g.K.Clock.told c.args.clock.now) c.args.dialer.now)
    (records g.P.Port.entries g.P.Port.refusals g.D.Dialer.dials g.D.Dialer.talks g.D.Dialer.failures c.go_on-step.new.port (g.K.Clock.told c.go_on-step.new.clock) c.go_on-step.new.dialer)
    (g.K.Clock.pauses c.args.clock.now) (g.K.Clock.pauses c.go_on-step.new.clock) step) c.in-Waits.is
    (passes_on g.P.Port.server_of
    (talk_of g.D.Connection.Wire.written g.D.Connection.Wire.reading g.D.Connection.Wire.faults) c.args.target.now c.args.request.now own before
    (talk_of g.C.Wire.written g.C.Wire.reading g.C.Wire.faults c.loop-answer.client) (talk_of g.C.Wire.written g.C.Wire.reading g.C.Wire.faults c.go_on-step.new.client)
    (records g.P.Port.entries g.P.Port.refusals g.D.Dialer.dials g.D.Dialer.talks g.D.Dialer.failures c.args.port.now (g.K.Clock.told c.args.clock.now) c.args.dialer.now)
    (records g.P.Port.entries g.P.Port.refusals g.D.Dialer.dials g.D.Dialer.talks g.D.Dialer.failures c.loop-answer.port (g.K.Clock.told c.loop-answer.clock) c.loop-answer.dialer)
    (records g.P.Port.entries g.P.Port.refusals g.D.Dialer.dials g.D.Dialer.talks g.D.Dialer.failures c.go_on-step.new.port (g.K.Clock.told c.go_on-step.new.clock) c.go_on-step.new.dialer)
    (g.K.Clock.pauses c.args.clock.now) (g.K.Clock.pauses c.loop-answer.clock) (g.K.Clock.pauses c.go_on-step.new.clock) c.loop-answer.underway c.go_on-step.result
    (c.loop-answer.invariant.passes own before h) c.loop-answer.invariant.left (λ more stands. c.go_on-step.ensures.steps more before stands) c.go_on-step.ensures.pauses)

pub returns-then-count-room-clause-left : goal.returns-then-count-room-clause-left
returns-then-count-room-clause-left g c = subst (λ step. HasLeftQueue step) c.in-Waits.is
    (stays_out c.args.target.now.queue g.D.Connection.Wire.reading c.loop-answer.underway c.go_on-step.result c.loop-answer.invariant.left c.go_on-step.ensures.nears)

pub returns-then-count-room-clause-fewer : goal.returns-then-count-room-clause-fewer
returns-then-count-room-clause-fewer g c =
    let less = subst (λ step. reads_left g.D.Connection.Wire.reading step < reads_left g.D.Connection.Wire.reading (Waits c.loop-answer.underway)) c.in-Waits.is
    (reads_fewer c.args.target.now.queue g.D.Connection.Wire.reading c.loop-answer.underway c.go_on-step.result c.loop-answer.invariant.left c.go_on-step.ensures.nears) in
    omega (arith, less, c.loop-answer.invariant.fewer)

pub loop-answer-smaller : goal.loop-answer-smaller
loop-answer-smaller g c = subst (λ step. reads_left g.D.Connection.Wire.reading step < reads_left g.D.Connection.Wire.reading (Waits c.loop-answer.underway)) c.in-Waits.is
    (reads_fewer c.args.target.now.queue g.D.Connection.Wire.reading c.loop-answer.underway c.go_on-step.result c.loop-answer.invariant.left c.go_on-step.ensures.nears)

pub loop-answer-preserved : goal.loop-answer-preserved
loop-answer-preserved g c =
    let less = subst (λ step. reads_left g.D.Connection.Wire.reading step < reads_left g.D.Connection.Wire.reading (Waits c.loop-answer.underway)) c.in-Waits.is
    (reads_fewer c.args.target.now.queue g.D.Connection.Wire.reading c.loop-answer.underway c.go_on-step.result c.loop-answer.invariant.left c.go_on-step.ensures.nears) in
    record {
      room = omega (arith, c.go_on-step.auto.room, c.loop-answer.invariant.room);
      left = subst (λ step. HasLeftQueue step) c.in-Waits.is
          (stays_out c.args.target.now.queue g.D.Connection.Wire.reading c.loop-answer.underway c.go_on-step.result c.loop-answer.invariant.left c.go_on-step.ensures.nears);
      fewer = omega (arith, less, c.loop-answer.invariant.fewer);
      passes = λ own before h. subst (λ step. Passes g.P.Port.server_of
          (talk_of g.D.Connection.Wire.written g.D.Connection.Wire.reading g.D.Connection.Wire.faults) c.args.target.now c.args.request.now own before
          (talk_of g.C.Wire.written g.C.Wire.reading g.C.Wire.faults c.go_on-step.new.client)
          (records g.P.Port.entries g.P.Port.refusals g.D.Dialer.dials g.D.Dialer.talks g.D.Dialer.failures c.args.port.now (g.K.Clock.told c.args.clock.now) c.args.dialer.now)
          (records g.P.Port.entries g.P.Port.refusals g.D.Dialer.dials g.D.Dialer.talks g.D.Dialer.failures c.go_on-step.new.port (g.K.Clock.told c.go_on-step.new.clock) c.go_on-step.new.dialer)
          (g.K.Clock.pauses c.args.clock.now) (g.K.Clock.pauses c.go_on-step.new.clock) step) c.in-Waits.is
          (passes_on g.P.Port.server_of
          (talk_of g.D.Connection.Wire.written g.D.Connection.Wire.reading g.D.Connection.Wire.faults) c.args.target.now c.args.request.now own before
          (talk_of g.C.Wire.written g.C.Wire.reading g.C.Wire.faults c.loop-answer.client) (talk_of g.C.Wire.written g.C.Wire.reading g.C.Wire.faults c.go_on-step.new.client)
          (records g.P.Port.entries g.P.Port.refusals g.D.Dialer.dials g.D.Dialer.talks g.D.Dialer.failures c.args.port.now (g.K.Clock.told c.args.clock.now) c.args.dialer.now)
          (records g.P.Port.entries g.P.Port.refusals g.D.Dialer.dials g.D.Dialer.talks g.D.Dialer.failures c.loop-answer.port (g.K.Clock.told c.loop-answer.clock) c.loop-answer.dialer)
          (records g.P.Port.entries g.P.Port.refusals g.D.Dialer.dials g.D.Dialer.talks g.D.Dialer.failures c.go_on-step.new.port (g.K.Clock.told c.go_on-step.new.clock) c.go_on-step.new.dialer)
          (g.K.Clock.pauses c.args.clock.now) (g.K.Clock.pauses c.loop-answer.clock) (g.K.Clock.pauses c.go_on-step.new.clock) c.loop-answer.underway c.go_on-step.result
          (c.loop-answer.invariant.passes own before h) c.loop-answer.invariant.left (λ more stands. c.go_on-step.ensures.steps more before stands) c.go_on-step.ensures.pauses);
    }
