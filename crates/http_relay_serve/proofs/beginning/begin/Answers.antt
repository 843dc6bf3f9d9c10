use Rattle.std.proofs.Common.{subst}
use Rattle.http_relay_dial.specs.Dials.{talk_of}
use Rattle.http_relay_serve.specs.Parts.{Starts}
use Rattle.http_relay_serve.specs.Serves.{port_seen, clock_seen, dialer_seen, scene}
use Rattle.http_relay_serve.proofs.Services.{ends_served}
use Rattle.http_relay_serve.proofs.beginning.begin.Goals as goal

pub returns-in-Waits-clause-begins : goal.returns-in-Waits-clause-begins
returns-in-Waits-clause-begins g c =
    let clock = clock_seen g.K.Clock.told g.K.Clock.pauses in
    let dialer = dialer_seen g.D.Dialer.dials g.D.Dialer.talks g.D.Dialer.failures in
    let talk = talk_of g.C.Wire.written g.C.Wire.reading g.C.Wire.faults in
    let wire = talk_of g.D.Connection.Wire.written g.D.Connection.Wire.reading g.D.Connection.Wire.faults in
    subst (λ started. Starts (port_seen g.P.Port.entries g.P.Port.refusals) g.P.Port.server_of wire (g.T.Routing.routes c.args.routing.now) c.args.client.source
    c.args.ports.now c.start-started.new.ports (scene (clock c.args.worker.now.clock) (dialer c.args.worker.now.dialer) (talk c.args.client.wire))
    (scene (clock c.start-started.new.worker.clock) (dialer c.start-started.new.worker.dialer) (talk c.start-started.new.client.wire)) started)
    c.in-Waits.is c.start-started.ensures.starts

pub returns-in-Ended-clause-begins : goal.returns-in-Ended-clause-begins
returns-in-Ended-clause-begins g c =
    let clock = clock_seen g.K.Clock.told g.K.Clock.pauses in
    let dialer = dialer_seen g.D.Dialer.dials g.D.Dialer.talks g.D.Dialer.failures in
    let talk = talk_of g.C.Wire.written g.C.Wire.reading g.C.Wire.faults in
    let wire = talk_of g.D.Connection.Wire.written g.D.Connection.Wire.reading g.D.Connection.Wire.faults in
    let seen = port_seen g.P.Port.entries g.P.Port.refusals in
    let routes = g.T.Routing.routes c.args.routing.now in
    let before = scene (clock c.args.worker.now.clock) (dialer c.args.worker.now.dialer) (talk c.args.client.wire) in
    ends_served seen g.P.Port.server_of routes c.args.client.source c.args.ports.now c.start-started.new.ports before
    (clock c.start-started.new.worker.clock) (dialer c.start-started.new.worker.dialer) (talk c.start-started.new.client.wire) (talk c.end-outcome.new.client)
    c.in-Ended.answer c.of.result c.end-outcome.result
    (subst (λ started. Starts seen g.P.Port.server_of wire routes c.args.client.source c.args.ports.now c.start-started.new.ports before
    (scene (clock c.start-started.new.worker.clock) (dialer c.start-started.new.worker.dialer) (talk c.start-started.new.client.wire)) started)
    c.in-Ended.is c.start-started.ensures.starts) c.of.ensures c.end-outcome.ensures
