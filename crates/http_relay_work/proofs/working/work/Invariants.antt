use Rattle.std.proofs.Common.{◌≡◌, List, length}
use Rattle.http_relay_serve.specs.Serves.{port_seen}
use Rattle.http_relay_work.specs.Services.{Service, ServesInTurn}
use Rattle.http_relay_work.proofs.working.work.Given as goal

abbrev pub invariant-loop : goal.invariant-loop
invariant-loop g l =
    (goal.iterator-loop g).can_next l.iterator' × (goal.iterator-loop g).is_finite l.iterator'
    × (length l.ports.items ≡ length l.initial.ports.items)
    × ((services : List Service)
    × ServesInTurn (port_seen g.P.Port.entries g.P.Port.refusals) g.P.Port.server_of l.relay.config.now l.initial.ports.items l.ports.items services)
