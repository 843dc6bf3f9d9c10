use Rattle.std.proofs.Common.{◌<◌, ◌∷◌, [], ◌∙◌, ap, subst, sym, arith}
use Rattle.http_relay_dial.specs.Dials.{talk_of}
use Rattle.lb_desk_ports.specs.Calls.{Grows}
use Rattle.http_relay_talk.specs.Openings.{Passes}
use Rattle.http_relay_talk.specs.Shares.{records}
use Rattle.http_relay_talk.specs.Visits.{Steps}
use Rattle.http_relay_talk.specs.declared.underway.Step.TheVariants.{Waits}
use Rattle.http_relay_talk.specs.declared.underway.Underway.TheVariants.{Queueing}
use Rattle.http_relay_talk.proofs.Passing.{nearer, passed, passes_none, passes_twice, queue_left}
use Rattle.http_relay_talk.proofs.visiting.leave_queue.Goals as goal

pub loop-step-init : goal.loop-step-init
loop-step-init g c = record {
  room = c.requires;
  passes = λ own before h. passes_none g.P.Port.server_of
      (talk_of g.D.Connection.Wire.written g.D.Connection.Wire.reading g.D.Connection.Wire.faults) c.args.target.now c.args.request.now own before
      (talk_of g.C.Wire.written g.C.Wire.reading g.C.Wire.faults c.args.client.now)
      (records g.P.Port.entries g.P.Port.refusals g.D.Dialer.dials g.D.Dialer.talks g.D.Dialer.failures c.args.port.now (g.K.Clock.told c.args.clock.now) c.args.dialer.now)
      (g.K.Clock.pauses c.args.clock.now) c.args.begun h;
}

pub returns-in-Done-clause-passes : goal.returns-in-Done-clause-passes
returns-in-Done-clause-passes g c own before h = subst (λ step. Passes g.P.Port.server_of
    (talk_of g.D.Connection.Wire.written g.D.Connection.Wire.reading g.D.Connection.Wire.faults) c.args.target.now c.args.request.now own before
    (talk_of g.C.Wire.written g.C.Wire.reading g.C.Wire.faults c.loop-step.client)
    (records g.P.Port.entries g.P.Port.refusals g.D.Dialer.dials g.D.Dialer.talks g.D.Dialer.failures c.args.port.now (g.K.Clock.told c.args.clock.now) c.args.dialer.now)
    (records g.P.Port.entries g.P.Port.refusals g.D.Dialer.dials g.D.Dialer.talks g.D.Dialer.failures c.loop-step.port (g.K.Clock.told c.loop-step.clock) c.loop-step.dialer)
    (g.K.Clock.pauses c.args.clock.now) (g.K.Clock.pauses c.loop-step.clock) step) c.in-Done.is (c.loop-step.invariant.passes own before h)

pub returns-in-Waits-Copying-clause-passes : goal.returns-in-Waits-Copying-clause-passes
returns-in-Waits-Copying-clause-passes g c own before h = subst (λ step. Passes g.P.Port.server_of
    (talk_of g.D.Connection.Wire.written g.D.Connection.Wire.reading g.D.Connection.Wire.faults) c.args.target.now c.args.request.now own before
    (talk_of g.C.Wire.written g.C.Wire.reading g.C.Wire.faults c.loop-step.client)
    (records g.P.Port.entries g.P.Port.refusals g.D.Dialer.dials g.D.Dialer.talks g.D.Dialer.failures c.args.port.now (g.K.Clock.told c.args.clock.now) c.args.dialer.now)
    (records g.P.Port.entries g.P.Port.refusals g.D.Dialer.dials g.D.Dialer.talks g.D.Dialer.failures c.loop-step.port (g.K.Clock.told c.loop-step.clock) c.loop-step.dialer)
    (g.K.Clock.pauses c.args.clock.now) (g.K.Clock.pauses c.loop-step.clock) step) (c.in-Waits-Copying.is ∙ ap (λ u. Waits u) c.in-Waits-Copying.field-0-is)
    (c.loop-step.invariant.passes own before h)

pub loop-step-smaller : goal.loop-step-smaller
loop-step-smaller g c =
    let limit = c.args.target.now.queue in
    subst (λ step. queue_left limit c.go_on-step.result < queue_left limit step)
    (sym (c.in-Waits-Queueing.is ∙ ap (λ u. Waits u) c.in-Waits-Queueing.field-0-is))
    (nearer limit g.D.Connection.Wire.reading c.in-Waits-Queueing.queueing c.go_on-step.result c.go_on-step.ensures.nears)

pub loop-step-preserved : goal.loop-step-preserved
loop-step-preserved g c = record {
  room = omega (arith, c.go_on-step.auto.room, c.loop-step.invariant.room);
  passes = λ own before h.
      let server_of = g.P.Port.server_of in
      let seen = talk_of g.D.Connection.Wire.written g.D.Connection.Wire.reading g.D.Connection.Wire.faults in
      let client = talk_of g.C.Wire.written g.C.Wire.reading g.C.Wire.faults in
      let at = records g.P.Port.entries g.P.Port.refusals g.D.Dialer.dials g.D.Dialer.talks g.D.Dialer.failures in
      let told = g.K.Clock.told in
      let paused = g.K.Clock.pauses in
      let target = c.args.target.now in
      let request = c.args.request.now in
      let old = at c.args.port.now (told c.args.clock.now) c.args.dialer.now in
      let mid = at c.loop-step.port (told c.loop-step.clock) c.loop-step.dialer in
      let new = at c.go_on-step.new.port (told c.go_on-step.new.clock) c.go_on-step.new.dialer in
      let step = Waits (Queueing c.in-Waits-Queueing.queueing) in
      let before_it = subst (λ s. Passes server_of seen target request own before (client c.loop-step.client) old mid (paused c.args.clock.now) (paused c.loop-step.clock) s)
      (c.in-Waits-Queueing.is ∙ ap (λ u. Waits u) c.in-Waits-Queueing.field-0-is) (c.loop-step.invariant.passes own before h) in
      passes_twice server_of seen target request own before (client c.loop-step.client) (client c.go_on-step.new.client) old mid new
      (paused c.args.clock.now) (paused c.loop-step.clock) (paused c.go_on-step.new.clock) step c.go_on-step.result before_it
      (λ more stands. passed server_of seen target request more before (client c.go_on-step.new.client) mid new
      (paused c.loop-step.clock) (paused c.go_on-step.new.clock) (50 ∷ []) c.go_on-step.result
      (subst (λ t. Steps server_of seen target request more before (client c.go_on-step.new.client) (at c.loop-step.port t c.loop-step.dialer) new (50 ∷ []) c.go_on-step.result)
      c.pause.ensures.told (c.go_on-step.ensures.steps more before stands))
      (subst (λ p. Grows (paused c.loop-step.clock) p (50 ∷ [])) (sym c.go_on-step.ensures.pauses) c.pause.ensures.pauses));
}
