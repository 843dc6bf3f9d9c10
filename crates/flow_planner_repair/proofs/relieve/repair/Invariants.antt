use Rattle.std.proofs.Common.{◌≡◌, ◌+◌, ◌*◌, ◌<◌, ◌≤◌, ℕ}
use Rattle.flow_planner_net.specs.Networks.{size, capacity}
use Rattle.flow_planner_net.specs.States.{used_of, at, IsState}
use Rattle.flow_planner_repair.specs.Repairs.{IsLaid, excess, most_looks}
use Rattle.flow_planner_repair.proofs.relieve.repair.Given as goal

abbrev pub invariant-loop-start : goal.invariant-loop-start
invariant-loop-start l = record {
  laid : IsLaid l.network l.counts l.prices l.loads l.arcs l.labels;
  state : IsState l.network (used_of (size l.network) l.counts) (at l.prices) (at l.loads);
  pushes : l.pushes + excess l.network (at l.loads) ≤ excess l.network (at l.fn.loads);
  within : (o : ℕ) → o < l.start → at l.loads o ≤ capacity l.network o;
  looks : l.arcs.looks ≤ l.fn.arcs.looks + l.pushes * most_looks l.network;
  none : l.pushes ≡ 0 → l.counts ≡ l.fn.counts;
  looks_stay : l.fn.arcs.looks ≤ l.arcs.looks;
}
