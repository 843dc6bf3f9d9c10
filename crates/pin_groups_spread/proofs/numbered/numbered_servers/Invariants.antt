use Rattle.std.proofs.Common.{◌≡◌, length, map, take}
use Rattle.pin_set.specs.declared.view.ViewServer.{ViewServer}
use Rattle.pin_groups_spread.specs.Numbered.{AreNumberedServers}
use Rattle.pin_groups_spread.proofs.numbered.numbered_servers.Given as goal

abbrev pub invariant-loop-i : goal.invariant-loop-i
invariant-loop-i l =
    (length l.servers.items ≡ l.i)
    × AreNumberedServers l.servers.items
    × (map (λ (server : ViewServer). server.capacity) l.servers.items ≡ take l.i l.capacities)
