use Rattle.std.proofs.Common.{◌∷◌, [], subst, ap, ◌∙◌}
use Rattle.http_relay_dial.specs.Dials.{talk_of}
use Rattle.http_relay_talk.specs.Visits as visit
use Rattle.http_relay_talk.specs.declared.underway.Step.TheVariants as visit_step
use Rattle.http_relay_serve.specs.Serves.{port_seen, clock_seen, dialer_seen}
use Rattle.http_relay_serve.specs.Steps.{recorded}
use Rattle.http_relay_serve.proofs.Services.{asks_as_kept, visit_over, waits_again, waits_for_server}
use Rattle.http_relay_serve.proofs.going.ask_on.Goals as goal

pub returns-in-Waits-Queueing-clause-steps : goal.returns-in-Waits-Queueing-clause-steps
returns-in-Waits-Queueing-clause-steps g c target request own headed h =
    let clock = clock_seen g.K.Clock.told g.K.Clock.pauses in
    let dialer = dialer_seen g.D.Dialer.dials g.D.Dialer.talks g.D.Dialer.failures in
    let wire = talk_of g.D.Connection.Wire.written g.D.Connection.Wire.reading g.D.Connection.Wire.faults in
    let talk = talk_of g.C.Wire.written g.C.Wire.reading g.C.Wire.faults in
    let port = port_seen g.P.Port.entries g.P.Port.refusals in
    let steps = asks_as_kept g.P.Port.server_of wire target c.args.queued.target request c.args.queued.request c.outgoing.result own headed
    (talk c.args.client.now) (talk c.go_on-visit.new.client)
    (recorded (port c.args.port.now) (clock c.args.worker.now.clock) (dialer c.args.worker.now.dialer))
    (recorded (port c.go_on-visit.new.port) (clock c.go_on-visit.new.clock) (dialer c.go_on-visit.new.dialer)) c.args.queued.queueing
    c.go_on-visit.result h.0.0 h.0.1 c.outgoing.ensures h.1 (c.go_on-visit.ensures.steps own headed) in
    waits_again g.P.Port.server_of wire target c.args.queued.target request c.args.queued.request own headed (talk c.go_on-visit.new.client)
    (port c.args.port.now) (port c.go_on-visit.new.port) (clock c.args.worker.now.clock) (clock c.go_on-visit.new.clock) (dialer c.args.worker.now.dialer)
    (dialer c.go_on-visit.new.dialer) (50 ∷ []) c.in-Waits-Queueing.queueing h.0.0 h.0.1
    (subst (λ step. visit.Steps g.P.Port.server_of wire target request own headed (talk c.go_on-visit.new.client)
    (recorded (port c.args.port.now) (clock c.args.worker.now.clock) (dialer c.args.worker.now.dialer))
    (recorded (port c.go_on-visit.new.port) (clock c.go_on-visit.new.clock) (dialer c.go_on-visit.new.dialer)) (50 ∷ []) step)
    (c.in-Waits-Queueing.is ∙ ap (λ u. visit_step.Waits u) c.in-Waits-Queueing.field-0-is) steps)

pub returns-in-Waits-Copying-clause-steps : goal.returns-in-Waits-Copying-clause-steps
returns-in-Waits-Copying-clause-steps g c target request own headed h =
    let clock = clock_seen g.K.Clock.told g.K.Clock.pauses in
    let dialer = dialer_seen g.D.Dialer.dials g.D.Dialer.talks g.D.Dialer.failures in
    let wire = talk_of g.D.Connection.Wire.written g.D.Connection.Wire.reading g.D.Connection.Wire.faults in
    let talk = talk_of g.C.Wire.written g.C.Wire.reading g.C.Wire.faults in
    let port = port_seen g.P.Port.entries g.P.Port.refusals in
    let steps = asks_as_kept g.P.Port.server_of wire target c.args.queued.target request c.args.queued.request c.outgoing.result own headed
    (talk c.args.client.now) (talk c.go_on-visit.new.client)
    (recorded (port c.args.port.now) (clock c.args.worker.now.clock) (dialer c.args.worker.now.dialer))
    (recorded (port c.go_on-visit.new.port) (clock c.go_on-visit.new.clock) (dialer c.go_on-visit.new.dialer)) c.args.queued.queueing
    c.go_on-visit.result h.0.0 h.0.1 c.outgoing.ensures h.1 (c.go_on-visit.ensures.steps own headed) in
    waits_for_server g.P.Port.server_of wire target request own headed (talk c.go_on-visit.new.client)
    (port c.args.port.now) (port c.go_on-visit.new.port) (clock c.args.worker.now.clock) (clock c.go_on-visit.new.clock) (dialer c.args.worker.now.dialer)
    (dialer c.go_on-visit.new.dialer) (50 ∷ []) c.in-Waits-Copying.held
    (subst (λ step. visit.Steps g.P.Port.server_of wire target request own headed (talk c.go_on-visit.new.client)
    (recorded (port c.args.port.now) (clock c.args.worker.now.clock) (dialer c.args.worker.now.dialer))
    (recorded (port c.go_on-visit.new.port) (clock c.go_on-visit.new.clock) (dialer c.go_on-visit.new.dialer)) (50 ∷ []) step)
    (c.in-Waits-Copying.is ∙ ap (λ u. visit_step.Waits u) c.in-Waits-Copying.field-0-is) steps)

pub returns-clause-steps : goal.returns-clause-steps
returns-clause-steps g c target request own headed h =
    let clock = clock_seen g.K.Clock.told g.K.Clock.pauses in
    let dialer = dialer_seen g.D.Dialer.dials g.D.Dialer.talks g.D.Dialer.failures in
    let wire = talk_of g.D.Connection.Wire.written g.D.Connection.Wire.reading g.D.Connection.Wire.faults in
    let talk = talk_of g.C.Wire.written g.C.Wire.reading g.C.Wire.faults in
    let port = port_seen g.P.Port.entries g.P.Port.refusals in
    let steps = asks_as_kept g.P.Port.server_of wire target c.args.queued.target request c.args.queued.request c.outgoing.result own headed
    (talk c.args.client.now) (talk c.go_on-visit.new.client)
    (recorded (port c.args.port.now) (clock c.args.worker.now.clock) (dialer c.args.worker.now.dialer))
    (recorded (port c.go_on-visit.new.port) (clock c.go_on-visit.new.clock) (dialer c.go_on-visit.new.dialer)) c.args.queued.queueing
    c.go_on-visit.result h.0.0 h.0.1 c.outgoing.ensures h.1 (c.go_on-visit.ensures.steps own headed) in
    visit_over g.P.Port.server_of wire target request own headed (talk c.go_on-visit.new.client)
    (port c.args.port.now) (port c.go_on-visit.new.port) (clock c.args.worker.now.clock) (clock c.go_on-visit.new.clock) (dialer c.args.worker.now.dialer)
    (dialer c.go_on-visit.new.dialer) (50 ∷ []) c.in-Done.answer
    (subst (λ step. visit.Steps g.P.Port.server_of wire target request own headed (talk c.go_on-visit.new.client)
    (recorded (port c.args.port.now) (clock c.args.worker.now.clock) (dialer c.args.worker.now.dialer))
    (recorded (port c.go_on-visit.new.port) (clock c.go_on-visit.new.clock) (dialer c.go_on-visit.new.dialer)) (50 ∷ []) step) c.in-Done.is steps)
