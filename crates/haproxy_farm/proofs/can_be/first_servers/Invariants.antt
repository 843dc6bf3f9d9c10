use Rattle.std.proofs.Common.{◌≡◌, ◌<◌, ℕ, true}
use Rattle.std.specs.Prelude.{◌↔◌}
use Rattle.lb_types.specs.Servers.{has}
use Rattle.haproxy_farm.proofs.can_be.first_servers.Given as goal

abbrev pub invariant-loop-i : goal.invariant-loop-i
invariant-loop-i l = (server : ℕ) → has l.servers server ≡ true ↔ server < l.i
