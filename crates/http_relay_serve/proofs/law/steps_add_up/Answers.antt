use Rattle.http_relay_dial.specs.Dials.{talk_of}
use Rattle.http_relay_serve.specs.Serves.{port_seen}
use Rattle.http_relay_serve.proofs.Services.{add_up}
use Rattle.http_relay_serve.proofs.law.steps_add_up.Goals as goal

pub returns : goal.returns
returns g c = add_up (port_seen g.P.Port.entries g.P.Port.refusals) g.P.Port.server_of
    (talk_of g.D.Connection.Wire.written g.D.Connection.Wire.reading g.D.Connection.Wire.faults) (talk_of g.C.Wire.written g.C.Wire.reading g.C.Wire.faults)
    (g.T.Routing.routes c.args.routing.now)
