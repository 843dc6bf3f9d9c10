use Rattle.std.proofs.Common.{sym, subst}
use Rattle.http_relay_dial.specs.Dials.{talk_of}
use Rattle.http_relay_talk.specs.Visits.{due}
use Rattle.http_relay_serve.specs.Parts.{GoesOnAt}
use Rattle.http_relay_serve.specs.Serves.{port_seen, clock_seen, dialer_seen}
use Rattle.http_relay_serve.specs.Steps.{IsVisiting, visit_of}
use Rattle.http_relay_serve.proofs.going.go_on_at.Goals as goal

pub returns-in-Queueing-clause-steps : goal.returns-in-Queueing-clause-steps
returns-in-Queueing-clause-steps g c target request own headed h =
    let clock = clock_seen g.K.Clock.told g.K.Clock.pauses in
    let dialer = dialer_seen g.D.Dialer.dials g.D.Dialer.talks g.D.Dialer.failures in
    let wire = talk_of g.D.Connection.Wire.written g.D.Connection.Wire.reading g.D.Connection.Wire.faults in
    let talk = talk_of g.C.Wire.written g.C.Wire.reading g.C.Wire.faults in
    let port = port_seen g.P.Port.entries g.P.Port.refusals in
    subst (λ stage. GoesOnAt g.P.Port.server_of wire target request own headed (talk c.ask_on.new.client) (port c.args.port.now) (port c.ask_on.new.port)
    (clock c.args.worker.now.clock) (clock c.ask_on.new.worker.clock) (dialer c.args.worker.now.dialer) (dialer c.ask_on.new.worker.dialer)
    (due (visit_of stage)) c.ask_on.result) (sym c.in-Queueing.is)
    (c.ask_on.ensures.steps target request own headed
    (subst (λ stage. IsVisiting g.P.Port.server_of wire target request own headed (talk c.args.client.now) stage) c.in-Queueing.is h))

pub returns-in-Copying-clause-steps : goal.returns-in-Copying-clause-steps
returns-in-Copying-clause-steps g c target request own headed h =
    let clock = clock_seen g.K.Clock.told g.K.Clock.pauses in
    let dialer = dialer_seen g.D.Dialer.dials g.D.Dialer.talks g.D.Dialer.failures in
    let wire = talk_of g.D.Connection.Wire.written g.D.Connection.Wire.reading g.D.Connection.Wire.faults in
    let talk = talk_of g.C.Wire.written g.C.Wire.reading g.C.Wire.faults in
    let port = port_seen g.P.Port.entries g.P.Port.refusals in
    subst (λ stage. GoesOnAt g.P.Port.server_of wire target request own headed (talk c.read_on.new.client) (port c.args.port.now) (port c.read_on.new.port)
    (clock c.args.worker.now.clock) (clock c.read_on.new.worker.clock) (dialer c.args.worker.now.dialer) (dialer c.read_on.new.worker.dialer)
    (due (visit_of stage)) c.read_on.result) (sym c.in-Copying.is)
    (c.read_on.ensures.steps target request own headed
    (subst (λ stage. IsVisiting g.P.Port.server_of wire target request own headed (talk c.args.client.now) stage) c.in-Copying.is h))
