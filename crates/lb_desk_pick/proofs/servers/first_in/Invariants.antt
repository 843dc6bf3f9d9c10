use Rattle.std.proofs.Common.{◌≡◌, None, take}
use Rattle.std.specs.List.{find}
use Rattle.lb_types.specs.Servers.{has}
use Rattle.lb_desk_pick.proofs.servers.first_in.Given as goal

abbrev pub invariant-loop-server : goal.invariant-loop-server
invariant-loop-server l = find (has l.set) (take l.server-index l.servers) ≡ None
