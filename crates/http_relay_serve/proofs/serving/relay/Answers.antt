use Rattle.std.proofs.Common.{◌<◌, length, get_or, Ok, Err, refl, arith}
use Rattle.http_relay_dial.specs.Dials.{talk_of}
use Rattle.http_relay_serve.proofs.Places.{get_at}
use Rattle.http_relay_serve.proofs.Preparing.{goes_to, not_found}
use Rattle.http_relay_serve.specs.Serves.{port_seen, clock_seen, dialer_seen, scene}
use Rattle.http_relay_serve.proofs.serving.relay.Goals as goal

pub returns-in-Err : goal.returns-in-Err
returns-in-Err g c =
    let talk = talk_of g.C.Wire.written g.C.Wire.reading g.C.Wire.faults in
    not_found (port_seen g.P.Port.entries g.P.Port.refusals) g.P.Port.server_of (g.T.Routing.routes c.args.routing.now) c.args.client.now.source c.args.ports.now
    (clock_seen g.K.Clock.told g.K.Clock.pauses c.args.worker.now.clock)
    (dialer_seen g.D.Dialer.dials g.D.Dialer.talks g.D.Dialer.failures c.args.worker.now.dialer)
    (talk c.args.client.now.wire) (talk c.find-found.new.client) c.in-Err.fault c.in-Err.ensures.finds

pub returns-in-Ok-serve_at : goal.returns-in-Ok-serve_at
returns-in-Ok-serve_at g c =
    let clock = clock_seen g.K.Clock.told g.K.Clock.pauses in
    let dialer = dialer_seen g.D.Dialer.dials g.D.Dialer.talks g.D.Dialer.failures in
    let talk = talk_of g.C.Wire.written g.C.Wire.reading g.C.Wire.faults in
    let found = c.in-Ok.found in
    let within : found.backend < length c.args.ports.now = omega (arith, c.requires, c.in-Ok.ensures.within) in
    goes_to (port_seen g.P.Port.entries g.P.Port.refusals) g.P.Port.server_of (g.T.Routing.routes c.args.routing.now) c.args.client.now.source c.args.ports.now _
    (get_or c.args.ports.now found.backend c.index-ports-backend.result) c.serve_at.new.port (clock c.args.worker.now.clock) (dialer c.args.worker.now.dialer)
    (talk c.args.client.now.wire) (talk c.find-found.new.client)
    (scene (clock c.serve_at.new.worker.clock) (dialer c.serve_at.new.worker.dialer) (talk c.serve_at.new.client)) found (Ok c.in-Ok-serve_at.count)
    c.in-Ok.ensures.finds (get_at c.args.ports.now found.backend c.index-ports-backend.result within) refl c.in-Ok-serve_at.ensures

pub returns : goal.returns
returns g c =
    let clock = clock_seen g.K.Clock.told g.K.Clock.pauses in
    let dialer = dialer_seen g.D.Dialer.dials g.D.Dialer.talks g.D.Dialer.failures in
    let talk = talk_of g.C.Wire.written g.C.Wire.reading g.C.Wire.faults in
    let found = c.in-Ok.found in
    let within : found.backend < length c.args.ports.now = omega (arith, c.requires, c.in-Ok.ensures.within) in
    goes_to (port_seen g.P.Port.entries g.P.Port.refusals) g.P.Port.server_of (g.T.Routing.routes c.args.routing.now) c.args.client.now.source c.args.ports.now _
    (get_or c.args.ports.now found.backend c.index-ports-backend.result) c.serve_at.new.port (clock c.args.worker.now.clock) (dialer c.args.worker.now.dialer)
    (talk c.args.client.now.wire) (talk c.find-found.new.client)
    (scene (clock c.serve_at.new.worker.clock) (dialer c.serve_at.new.worker.dialer) (talk c.serve_at.new.client)) found (Err c.in-Err-serve_at.fault)
    c.in-Ok.ensures.finds (get_at c.args.ports.now found.backend c.index-ports-backend.result within) refl c.in-Err-serve_at.ensures
