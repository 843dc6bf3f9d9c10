use Rattle.std.proofs.Common.{[], sym, subst, ap, ◌∙◌}
use Rattle.http_relay_dial.specs.Dials.{talk_of}
use Rattle.http_relay_talk.specs.Shares.{nothing}
use Rattle.http_relay_talk.specs.Visits as visit
use Rattle.http_relay_talk.specs.declared.underway.Step.TheVariants as visit_step
use Rattle.http_relay_talk.specs.declared.underway.Underway.TheVariants as visit_stage
use Rattle.http_relay_serve.specs.Parts.{sends}
use Rattle.http_relay_serve.specs.Serves.{ServesAt, port_seen, clock_seen, dialer_seen, scene}
use Rattle.http_relay_serve.specs.Steps.{recorded}
use Rattle.http_relay_serve.specs.declared.underway.Queued.{Queued}
use Rattle.http_relay_serve.specs.declared.underway.Stage.TheVariants.{Queueing, Copying}
use Rattle.http_relay_serve.proofs.Preparing.{not_prepared, visit_serves}
use Rattle.http_relay_serve.proofs.Services.{begun_and_over, has_begun}
use Rattle.http_relay_serve.proofs.beginning.begin_at.Goals as goal

pub returns-in-Err-clause-begins : goal.returns-in-Err-clause-begins
returns-in-Err-clause-begins g c =
    let port = port_seen g.P.Port.entries g.P.Port.refusals in
    let clock = clock_seen g.K.Clock.told g.K.Clock.pauses in
    not_prepared g.P.Port.server_of (g.T.Routing.routes c.args.routing.now) c.args.backend c.args.read.now (port c.args.port.now) (port c.prepare.new.port)
    (clock c.args.worker.now.clock) (clock c.prepare.new.clock) (dialer_seen g.D.Dialer.dials g.D.Dialer.talks g.D.Dialer.failures c.args.worker.now.dialer)
    (talk_of g.C.Wire.written g.C.Wire.reading g.C.Wire.faults c.args.client.now) c.in-Err.fault c.in-Err.ensures.prepares

pub returns-in-Waits-Copying-clause-begins : goal.returns-in-Waits-Copying-clause-begins
returns-in-Waits-Copying-clause-begins g c =
    let routes = g.T.Routing.routes c.args.routing.now in
    let port = port_seen g.P.Port.entries g.P.Port.refusals in
    let clock = clock_seen g.K.Clock.told g.K.Clock.pauses in
    let dialer = dialer_seen g.D.Dialer.dials g.D.Dialer.talks g.D.Dialer.failures in
    let talk = talk_of g.C.Wire.written g.C.Wire.reading g.C.Wire.faults in
    let wire = talk_of g.D.Connection.Wire.written g.D.Connection.Wire.reading g.D.Connection.Wire.faults in
    let x = c.in-Ok.ensures.prepares in
    let target = c.in-Ok.prepared.target in
    let request = c.outgoing-outgoing.result in
    let is = c.outgoing-outgoing.ensures ∙ ap (sends c.in-Ok.prepared) c.rest.ensures ∙ x.1 in
    has_begun g.P.Port.server_of wire routes c.args.backend c.args.read.now target request (port c.args.port.now) (port c.prepare.new.port)
    (port c.begin_visit-visit.new.port) (clock c.args.worker.now.clock) (clock c.prepare.new.clock) (clock c.begin_visit-visit.new.clock)
    (dialer c.args.worker.now.dialer) (dialer c.begin_visit-visit.new.dialer) (talk c.args.client.now) (talk c.begin_visit-visit.new.client)
    (Copying c.in-Waits-Copying.held) x.0 is tt
    (subst (λ step. visit.Steps g.P.Port.server_of wire target request nothing (talk c.args.client.now) (talk c.begin_visit-visit.new.client)
    (recorded (port c.prepare.new.port) (clock c.prepare.new.clock) (dialer c.args.worker.now.dialer))
    (recorded (port c.begin_visit-visit.new.port) (clock c.begin_visit-visit.new.clock) (dialer c.begin_visit-visit.new.dialer)) [] step)
    (c.in-Waits-Copying.is ∙ ap (λ u. visit_step.Waits u) c.in-Waits-Copying.field-0-is) c.begin_visit-visit.ensures.steps)

pub returns-in-Waits-Queueing-clause-begins : goal.returns-in-Waits-Queueing-clause-begins
returns-in-Waits-Queueing-clause-begins g c =
    let routes = g.T.Routing.routes c.args.routing.now in
    let port = port_seen g.P.Port.entries g.P.Port.refusals in
    let clock = clock_seen g.K.Clock.told g.K.Clock.pauses in
    let dialer = dialer_seen g.D.Dialer.dials g.D.Dialer.talks g.D.Dialer.failures in
    let talk = talk_of g.C.Wire.written g.C.Wire.reading g.C.Wire.faults in
    let wire = talk_of g.D.Connection.Wire.written g.D.Connection.Wire.reading g.D.Connection.Wire.faults in
    let x = c.in-Ok.ensures.prepares in
    let target = c.in-Ok.prepared.target in
    let request = c.outgoing-outgoing.result in
    let is = c.outgoing-outgoing.ensures ∙ ap (sends c.in-Ok.prepared) c.rest.ensures ∙ x.1 in
    let queued = c.queue.result in
    let kept = ap (λ (q : Queued). q.request) c.queue.ensures ∙ ap (sends c.in-Ok.prepared) c.rest-in-Waits-Queueing.ensures ∙ x.1 in
    let queueing = sym (ap (λ (q : Queued). q.queueing) c.queue.ensures) in
    has_begun g.P.Port.server_of wire routes c.args.backend c.args.read.now target request (port c.args.port.now) (port c.prepare.new.port)
    (port c.begin_visit-visit.new.port) (clock c.args.worker.now.clock) (clock c.prepare.new.clock) (clock c.begin_visit-visit.new.clock)
    (dialer c.args.worker.now.dialer) (dialer c.begin_visit-visit.new.dialer) (talk c.args.client.now) (talk c.begin_visit-visit.new.client)
    (Queueing queued) x.0 is (ap (λ (q : Queued). q.target) c.queue.ensures, kept)
    (subst (λ step. visit.Steps g.P.Port.server_of wire target request nothing (talk c.args.client.now) (talk c.begin_visit-visit.new.client)
    (recorded (port c.prepare.new.port) (clock c.prepare.new.clock) (dialer c.args.worker.now.dialer))
    (recorded (port c.begin_visit-visit.new.port) (clock c.begin_visit-visit.new.clock) (dialer c.begin_visit-visit.new.dialer)) [] step)
    (c.in-Waits-Queueing.is ∙ ap (λ u. visit_step.Waits u) (c.in-Waits-Queueing.field-0-is ∙ ap (λ q. visit_stage.Queueing q) queueing))
    c.begin_visit-visit.ensures.steps)

pub returns-clause-begins : goal.returns-clause-begins
returns-clause-begins g c =
    let routes = g.T.Routing.routes c.args.routing.now in
    let port = port_seen g.P.Port.entries g.P.Port.refusals in
    let clock = clock_seen g.K.Clock.told g.K.Clock.pauses in
    let dialer = dialer_seen g.D.Dialer.dials g.D.Dialer.talks g.D.Dialer.failures in
    let talk = talk_of g.C.Wire.written g.C.Wire.reading g.C.Wire.faults in
    let wire = talk_of g.D.Connection.Wire.written g.D.Connection.Wire.reading g.D.Connection.Wire.faults in
    let x = c.in-Ok.ensures.prepares in
    let target = c.in-Ok.prepared.target in
    let request = c.outgoing-outgoing.result in
    let is = c.outgoing-outgoing.ensures ∙ ap (sends c.in-Ok.prepared) c.rest.ensures ∙ x.1 in
    let before = scene (clock c.args.worker.now.clock) (dialer c.args.worker.now.dialer) (talk c.args.client.now) in
    let after = scene (clock c.begin_visit-visit.new.clock) (dialer c.begin_visit-visit.new.dialer) (talk c.begin_visit-visit.new.client) in
    let over = begun_and_over g.P.Port.server_of wire routes c.args.backend c.args.read.now target request (port c.args.port.now) (port c.prepare.new.port)
    (port c.begin_visit-visit.new.port) (clock c.args.worker.now.clock) (clock c.prepare.new.clock) (clock c.begin_visit-visit.new.clock)
    (dialer c.args.worker.now.dialer) (dialer c.begin_visit-visit.new.dialer) (talk c.args.client.now) (talk c.begin_visit-visit.new.client)
    c.in-Done.answer x.0 is c.begin_visit-visit.ensures.pauses
    (subst (λ step. visit.Steps g.P.Port.server_of wire target request nothing (talk c.args.client.now) (talk c.begin_visit-visit.new.client)
    (recorded (port c.prepare.new.port) (clock c.prepare.new.clock) (dialer c.args.worker.now.dialer))
    (recorded (port c.begin_visit-visit.new.port) (clock c.begin_visit-visit.new.clock) (dialer c.begin_visit-visit.new.dialer)) [] step)
    c.in-Done.is c.begin_visit-visit.ensures.steps) in
    subst (λ answer. ServesAt g.P.Port.server_of routes c.args.backend c.args.read.now (port c.args.port.now) (port c.begin_visit-visit.new.port) before after answer)
    (sym c.visited.ensures)
    (visit_serves g.P.Port.server_of routes c.args.backend c.args.read.now (port c.args.port.now) (port c.begin_visit-visit.new.port) before after
    c.in-Done.answer over)
