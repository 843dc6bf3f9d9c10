use Rattle.std.proofs.Common.{◌<◌, subst}
use Rattle.http_relay_dial.specs.Dials.{talk_of}
use Rattle.http_relay_talk.specs.Openings.{HasLeftQueue, Passes, reads_left}
use Rattle.http_relay_talk.specs.Shares.{records}
use Rattle.http_relay_talk.specs.declared.underway.Step.TheVariants.{Waits}
use Rattle.http_relay_talk.proofs.Passing.{passes_none, passes_twice}
use Rattle.http_relay_talk.proofs.visiting.copy_rest.Goals as goal

pub loop-answer-init : goal.loop-answer-init
loop-answer-init g c = record {
  left = c.requires;
  passes = λ own before h. passes_none g.P.Port.server_of
      (talk_of g.D.Connection.Wire.written g.D.Connection.Wire.reading g.D.Connection.Wire.faults) c.args.target.now c.args.request.now own before
      (talk_of g.C.Wire.written g.C.Wire.reading g.C.Wire.faults c.args.client.now)
      (records g.P.Port.entries g.P.Port.refusals g.D.Dialer.dials g.D.Dialer.talks g.D.Dialer.failures c.args.port.now (g.K.Clock.told c.args.clock.now) c.args.dialer.now)
      (g.K.Clock.pauses c.args.clock.now) (Waits c.args.underway) h;
}

pub returns-in-Done : goal.returns-in-Done
returns-in-Done g c own before h = subst (λ step. Passes g.P.Port.server_of
    (talk_of g.D.Connection.Wire.written g.D.Connection.Wire.reading g.D.Connection.Wire.faults) c.args.target.now c.args.request.now own before
    (talk_of g.C.Wire.written g.C.Wire.reading g.C.Wire.faults c.copy_through-step.new.client)
    (records g.P.Port.entries g.P.Port.refusals g.D.Dialer.dials g.D.Dialer.talks g.D.Dialer.failures c.args.port.now (g.K.Clock.told c.args.clock.now) c.args.dialer.now)
    (records g.P.Port.entries g.P.Port.refusals g.D.Dialer.dials g.D.Dialer.talks g.D.Dialer.failures c.copy_through-step.new.port (g.K.Clock.told c.copy_through-step.new.clock) c.copy_through-step.new.dialer)
    (g.K.Clock.pauses c.args.clock.now) (g.K.Clock.pauses c.copy_through-step.new.clock) step) c.in-Done.is
    (passes_twice g.P.Port.server_of
    (talk_of g.D.Connection.Wire.written g.D.Connection.Wire.reading g.D.Connection.Wire.faults) c.args.target.now c.args.request.now own before
    (talk_of g.C.Wire.written g.C.Wire.reading g.C.Wire.faults c.loop-answer.client) (talk_of g.C.Wire.written g.C.Wire.reading g.C.Wire.faults c.copy_through-step.new.client)
    (records g.P.Port.entries g.P.Port.refusals g.D.Dialer.dials g.D.Dialer.talks g.D.Dialer.failures c.args.port.now (g.K.Clock.told c.args.clock.now) c.args.dialer.now)
    (records g.P.Port.entries g.P.Port.refusals g.D.Dialer.dials g.D.Dialer.talks g.D.Dialer.failures c.loop-answer.port (g.K.Clock.told c.loop-answer.clock) c.loop-answer.dialer)
    (records g.P.Port.entries g.P.Port.refusals g.D.Dialer.dials g.D.Dialer.talks g.D.Dialer.failures c.copy_through-step.new.port (g.K.Clock.told c.copy_through-step.new.clock) c.copy_through-step.new.dialer)
    (g.K.Clock.pauses c.args.clock.now) (g.K.Clock.pauses c.loop-answer.clock) (g.K.Clock.pauses c.copy_through-step.new.clock) (Waits c.loop-answer.underway) c.copy_through-step.result
    (c.loop-answer.invariant.passes own before h) (λ more stands. c.copy_through-step.ensures.passes more before stands))

pub loop-answer-smaller : goal.loop-answer-smaller
loop-answer-smaller g c = subst (λ step. reads_left g.D.Connection.Wire.reading step < reads_left g.D.Connection.Wire.reading (Waits c.loop-answer.underway)) c.in-Waits.is
    c.copy_through-step.ensures.fewer

pub loop-answer-preserved : goal.loop-answer-preserved
loop-answer-preserved g c = record {
  left = subst (λ step. HasLeftQueue step) c.in-Waits.is c.copy_through-step.ensures.left;
  passes = λ own before h. subst (λ step. Passes g.P.Port.server_of
      (talk_of g.D.Connection.Wire.written g.D.Connection.Wire.reading g.D.Connection.Wire.faults) c.args.target.now c.args.request.now own before
      (talk_of g.C.Wire.written g.C.Wire.reading g.C.Wire.faults c.copy_through-step.new.client)
      (records g.P.Port.entries g.P.Port.refusals g.D.Dialer.dials g.D.Dialer.talks g.D.Dialer.failures c.args.port.now (g.K.Clock.told c.args.clock.now) c.args.dialer.now)
      (records g.P.Port.entries g.P.Port.refusals g.D.Dialer.dials g.D.Dialer.talks g.D.Dialer.failures c.copy_through-step.new.port (g.K.Clock.told c.copy_through-step.new.clock) c.copy_through-step.new.dialer)
      (g.K.Clock.pauses c.args.clock.now) (g.K.Clock.pauses c.copy_through-step.new.clock) step) c.in-Waits.is
      (passes_twice g.P.Port.server_of
      (talk_of g.D.Connection.Wire.written g.D.Connection.Wire.reading g.D.Connection.Wire.faults) c.args.target.now c.args.request.now own before
      (talk_of g.C.Wire.written g.C.Wire.reading g.C.Wire.faults c.loop-answer.client) (talk_of g.C.Wire.written g.C.Wire.reading g.C.Wire.faults c.copy_through-step.new.client)
      (records g.P.Port.entries g.P.Port.refusals g.D.Dialer.dials g.D.Dialer.talks g.D.Dialer.failures c.args.port.now (g.K.Clock.told c.args.clock.now) c.args.dialer.now)
      (records g.P.Port.entries g.P.Port.refusals g.D.Dialer.dials g.D.Dialer.talks g.D.Dialer.failures c.loop-answer.port (g.K.Clock.told c.loop-answer.clock) c.loop-answer.dialer)
      (records g.P.Port.entries g.P.Port.refusals g.D.Dialer.dials g.D.Dialer.talks g.D.Dialer.failures c.copy_through-step.new.port (g.K.Clock.told c.copy_through-step.new.clock) c.copy_through-step.new.dialer)
      (g.K.Clock.pauses c.args.clock.now) (g.K.Clock.pauses c.loop-answer.clock) (g.K.Clock.pauses c.copy_through-step.new.clock) (Waits c.loop-answer.underway) c.copy_through-step.result
      (c.loop-answer.invariant.passes own before h) (λ more stands. c.copy_through-step.ensures.passes more before stands));
}
