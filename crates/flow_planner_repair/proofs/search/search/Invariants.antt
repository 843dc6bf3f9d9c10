use Rattle.std.proofs.Common.{◌+◌, ◌-◌, ◌*◌, ◌≤◌}
use Rattle.flow_planner_net.specs.Networks.{options, size}
use Rattle.flow_planner_net.specs.States.{used_of, at}
use Rattle.flow_planner_repair.specs.Searches.{IsSearch, IsNearest}
use Rattle.flow_planner_repair.specs.Repairs.{IsLaid}
use Rattle.flow_planner_repair.proofs.search.search.Given as goal

abbrev pub invariant-loop-here : goal.invariant-loop-here
invariant-loop-here l = record {
  laid : IsLaid l.network l.counts l.prices l.loads l.arcs l.labels;
  search : IsSearch l.network (used_of (size l.network) l.counts) (at l.prices) (at l.loads) l.labels l.start l.settled;
  nearest : IsNearest l.network l.labels l.here;
  looks : l.arcs.looks ≤ l.fn.arcs.looks + l.settled * (size l.network * options l.network);
  looks_stay : l.fn.arcs.looks ≤ l.arcs.looks;
}

abbrev pub decreases-loop-here : goal.decreases-loop-here
decreases-loop-here l = options l.network - l.settled
