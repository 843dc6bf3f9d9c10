use Rattle.http_relay_inflight.proofs.OneByOne.{one_by_one}
use Rattle.http_relay_serve.specs.Serves.{port_seen}
use Rattle.http_relay_inflight.proofs.law.one_by_one.Goals as goal

pub returns : goal.returns
returns g c = one_by_one (port_seen g.P.Port.entries g.P.Port.refusals) g.P.Port.server_of g.T.Routing.routes
