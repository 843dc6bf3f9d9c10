use Rattle.std.proofs.Common.{◌≡◌, take}
use Rattle.flow_planner_net.specs.States.{at}
use Rattle.flow_planner.specs.Plannings.{priced_servers}
use Rattle.flow_planner.proofs.sheet_parts.priced_servers.Given as goal

abbrev pub invariant-loop-i : goal.invariant-loop-i
invariant-loop-i l = l.priced.items ≡ take l.i (priced_servers (at l.prices) l.servers)
