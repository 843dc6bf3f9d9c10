use Rattle.std.proofs.Common.{Ok, Err, ap, ◌∙◌}
use Rattle.http_relay_dial.specs.Dials.{talk_of}
use Rattle.http_relay_serve.specs.Parts.{sends}
use Rattle.http_relay_serve.specs.Serves.{port_seen, clock_seen, dialer_seen, scene}
use Rattle.http_relay_serve.proofs.Preparing.{not_prepared}
use Rattle.http_relay_serve.proofs.Stages.{visits}
use Rattle.http_relay_serve.proofs.relaying.serve_at.Goals as goal

pub returns-in-Err : goal.returns-in-Err
returns-in-Err g c =
    let port = port_seen g.P.Port.entries g.P.Port.refusals in
    let clock = clock_seen g.K.Clock.told g.K.Clock.pauses in
    not_prepared g.P.Port.server_of (g.T.Routing.routes c.args.routing.now) c.args.backend c.args.read.now (port c.args.port.now) (port c.prepare.new.port)
    (clock c.args.worker.now.clock) (clock c.prepare.new.clock) (dialer_seen g.D.Dialer.dials g.D.Dialer.talks g.D.Dialer.failures c.args.worker.now.dialer)
    (talk_of g.C.Wire.written g.C.Wire.reading g.C.Wire.faults c.args.client.now) c.in-Err.fault c.in-Err.ensures.prepares

pub returns-in-Ok-answer : goal.returns-in-Ok-answer
returns-in-Ok-answer g c =
    let routes = g.T.Routing.routes c.args.routing.now in
    let port = port_seen g.P.Port.entries g.P.Port.refusals in
    let clock = clock_seen g.K.Clock.told g.K.Clock.pauses in
    let dialer = dialer_seen g.D.Dialer.dials g.D.Dialer.talks g.D.Dialer.failures in
    let talk = talk_of g.C.Wire.written g.C.Wire.reading g.C.Wire.faults in
    let x = c.in-Ok.ensures.prepares in
    visits g.P.Port.server_of routes c.args.backend c.args.read.now (port c.args.port.now) (port c.prepare.new.port) (port c.visit-answer.new.port)
    (clock c.prepare.new.clock) (scene (clock c.args.worker.now.clock) (dialer c.args.worker.now.dialer) (talk c.args.client.now))
    (scene (clock c.visit-answer.new.clock) (dialer c.visit-answer.new.dialer) (talk c.visit-answer.new.client))
    c.in-Ok.prepared.target c.in-Ok-answer.ensures.0 c.outgoing-outgoing.result (Ok c.in-Ok-answer.count) x.0
    (c.outgoing-outgoing.ensures ∙ ap (sends c.in-Ok.prepared) c.rest.ensures ∙ x.1) c.in-Ok-answer.ensures.1 c.in-Ok-answer.ensures.2

pub returns : goal.returns
returns g c =
    let routes = g.T.Routing.routes c.args.routing.now in
    let port = port_seen g.P.Port.entries g.P.Port.refusals in
    let clock = clock_seen g.K.Clock.told g.K.Clock.pauses in
    let dialer = dialer_seen g.D.Dialer.dials g.D.Dialer.talks g.D.Dialer.failures in
    let talk = talk_of g.C.Wire.written g.C.Wire.reading g.C.Wire.faults in
    let x = c.in-Ok.ensures.prepares in
    visits g.P.Port.server_of routes c.args.backend c.args.read.now (port c.args.port.now) (port c.prepare.new.port) (port c.visit-answer.new.port)
    (clock c.prepare.new.clock) (scene (clock c.args.worker.now.clock) (dialer c.args.worker.now.dialer) (talk c.args.client.now))
    (scene (clock c.visit-answer.new.clock) (dialer c.visit-answer.new.dialer) (talk c.visit-answer.new.client))
    c.in-Ok.prepared.target c.in-Err-answer.ensures.0 c.outgoing-outgoing.result (Err c.in-Err-answer.fault) x.0
    (c.outgoing-outgoing.ensures ∙ ap (sends c.in-Ok.prepared) c.rest.ensures ∙ x.1) c.in-Err-answer.ensures.1 c.in-Err-answer.ensures.2
