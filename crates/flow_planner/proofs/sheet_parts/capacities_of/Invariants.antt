use Rattle.std.proofs.Common.{◌≡◌, take}
use Rattle.flow_planner_law.specs.Accepted.{capacities_of}
use Rattle.flow_planner.proofs.sheet_parts.capacities_of.Given as goal

abbrev pub invariant-loop-server : goal.invariant-loop-server
invariant-loop-server l = l.capacities.items ≡ capacities_of (take l.server-index l.servers)
