use Rattle.std.proofs.Common.{◌≡◌, ◌*◌, ◌^◌, ◌≤◌}
use Rattle.pin_set.specs.Costs.{held}
use Rattle.dual_cert_plan.specs.Plans.{servers_of}
use Rattle.cert_check.specs.Verdict.{room, price_at}
use Rattle.cert_check.proofs.bound.worth.Given as goal

abbrev pub invariant-loop-server : goal.invariant-loop-server
invariant-loop-server l =
    (l.worth ≡ held l.server-index (room (servers_of l.servers)) (price_at l.servers)) × (l.worth ≤ l.server-index * 2 ^ 72)
