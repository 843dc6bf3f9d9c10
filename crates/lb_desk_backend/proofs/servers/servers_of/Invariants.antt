use Rattle.std.proofs.Common.{◌≡◌, true, take, All}
use Rattle.lb_types.specs.Names.{is_name}
use Rattle.lb_desk_backend.proofs.Alike.{AreAlike}
use Rattle.lb_desk_backend.proofs.servers.servers_of.Given as goal

abbrev pub invariant-loop-server : goal.invariant-loop-server
invariant-loop-server l =
    AreAlike l.servers.items (take l.server-index l.configured) × All (λ server. is_name server.name ≡ true) l.servers.items
