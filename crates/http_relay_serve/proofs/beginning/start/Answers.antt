use Rattle.std.proofs.Common.{◌<◌, length, get_or, refl, sym, subst, arith}
use Rattle.std.specs.Prelude.{slice_set}
use Rattle.http_relay_dial.specs.Dials.{talk_of}
use Rattle.http_relay_serve.specs.Parts.{BeginsAt}
use Rattle.http_relay_serve.specs.Serves.{Relays, port_seen, clock_seen, dialer_seen, scene}
use Rattle.http_relay_serve.proofs.Places.{get_at}
use Rattle.http_relay_serve.proofs.Preparing.{backend_relays, goes_to, not_found}
use Rattle.http_relay_serve.proofs.Services.{is_serving}
use Rattle.http_relay_serve.proofs.beginning.start.Goals as goal

pub returns-in-Err-clause-starts : goal.returns-in-Err-clause-starts
returns-in-Err-clause-starts g c =
    let talk = talk_of g.C.Wire.written g.C.Wire.reading g.C.Wire.faults in
    not_found (port_seen g.P.Port.entries g.P.Port.refusals) g.P.Port.server_of (g.T.Routing.routes c.args.routing.now) c.args.client.now.source c.args.ports.now
    (clock_seen g.K.Clock.told g.K.Clock.pauses c.args.worker.now.clock)
    (dialer_seen g.D.Dialer.dials g.D.Dialer.talks g.D.Dialer.failures c.args.worker.now.dialer)
    (talk c.args.client.now.wire) (talk c.find-found.new.client) c.in-Err.fault c.in-Err.ensures.finds

pub returns-in-Waits-clause-starts : goal.returns-in-Waits-clause-starts
returns-in-Waits-clause-starts g c =
    let routes = g.T.Routing.routes c.args.routing.now in
    let port = port_seen g.P.Port.entries g.P.Port.refusals in
    let clock = clock_seen g.K.Clock.told g.K.Clock.pauses in
    let dialer = dialer_seen g.D.Dialer.dials g.D.Dialer.talks g.D.Dialer.failures in
    let talk = talk_of g.C.Wire.written g.C.Wire.reading g.C.Wire.faults in
    let wire = talk_of g.D.Connection.Wire.written g.D.Connection.Wire.reading g.D.Connection.Wire.faults in
    let found = c.in-Ok.found in
    let within : found.backend < length c.args.ports.now = omega (arith, c.requires, c.in-Ok.ensures.within) in
    let old = get_or c.args.ports.now found.backend c.index-ports-backend.result in
    is_serving port g.P.Port.server_of wire routes c.args.client.now.source c.args.ports.now _ old c.begin_at-begun.new.port
    (clock c.args.worker.now.clock) (clock c.begin_at-begun.new.worker.clock) (dialer c.args.worker.now.dialer) (dialer c.begin_at-begun.new.worker.dialer)
    (talk c.args.client.now.wire) (talk c.find-found.new.client) (talk c.begin_at-begun.new.client) found c.in-Waits.stage c.in-Ok.ensures.finds
    (get_at c.args.ports.now found.backend c.index-ports-backend.result within) refl
    (subst (λ begun. BeginsAt g.P.Port.server_of wire routes found.backend found.read (port old) (port c.begin_at-begun.new.port)
    (scene (clock c.args.worker.now.clock) (dialer c.args.worker.now.dialer) (talk c.find-found.new.client))
    (scene (clock c.begin_at-begun.new.worker.clock) (dialer c.begin_at-begun.new.worker.dialer) (talk c.begin_at-begun.new.client)) begun)
    c.in-Waits.is c.begin_at-begun.ensures.begins)

pub returns-clause-starts : goal.returns-clause-starts
returns-clause-starts g c =
    let routes = g.T.Routing.routes c.args.routing.now in
    let port = port_seen g.P.Port.entries g.P.Port.refusals in
    let clock = clock_seen g.K.Clock.told g.K.Clock.pauses in
    let dialer = dialer_seen g.D.Dialer.dials g.D.Dialer.talks g.D.Dialer.failures in
    let talk = talk_of g.C.Wire.written g.C.Wire.reading g.C.Wire.faults in
    let wire = talk_of g.D.Connection.Wire.written g.D.Connection.Wire.reading g.D.Connection.Wire.faults in
    let found = c.in-Ok.found in
    let within : found.backend < length c.args.ports.now = omega (arith, c.requires, c.in-Ok.ensures.within) in
    let old = get_or c.args.ports.now found.backend c.index-ports-backend.result in
    let used = slice_set c.args.ports.now found.backend c.begin_at-begun.new.port in
    let before = scene (clock c.args.worker.now.clock) (dialer c.args.worker.now.dialer) (talk c.args.client.now.wire) in
    let after = scene (clock c.begin_at-begun.new.worker.clock) (dialer c.begin_at-begun.new.worker.dialer) (talk c.begin_at-begun.new.client) in
    let serves = goes_to port g.P.Port.server_of routes c.args.client.now.source c.args.ports.now used old c.begin_at-begun.new.port
    (clock c.args.worker.now.clock) (dialer c.args.worker.now.dialer) (talk c.args.client.now.wire) (talk c.find-found.new.client) after found
    c.in-Ended.answer c.in-Ok.ensures.finds (get_at c.args.ports.now found.backend c.index-ports-backend.result within) refl
    (subst (λ begun. BeginsAt g.P.Port.server_of wire routes found.backend found.read (port old) (port c.begin_at-begun.new.port)
    (scene (clock c.args.worker.now.clock) (dialer c.args.worker.now.dialer) (talk c.find-found.new.client)) after begun)
    c.in-Ended.is c.begin_at-begun.ensures.begins) in
    subst (λ answer. Relays port g.P.Port.server_of routes c.args.client.now.source c.args.ports.now used before after answer) (sym c.at_backend.ensures)
    (backend_relays port g.P.Port.server_of routes c.args.client.now.source c.args.ports.now used before after c.in-Ended.answer serves)
