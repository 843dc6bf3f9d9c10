use Rattle.std.proofs.Common.{◌≡◌, ◌<◌, ℕ, Some, false}
use Rattle.flow_planner_net.specs.Networks.{options}
use Rattle.flow_planner_repair.specs.LeastArcs.{AreFewer, least_of, is_fresh}
use Rattle.flow_planner_repair.proofs.forget.forget_group.Given as goal

abbrev pub invariant-loop-target : goal.invariant-loop-target
invariant-loop-target l = record {
  fewer : AreFewer l.network l.fn.arcs l.arcs;
  looks : l.arcs.looks ≡ l.fn.arcs.looks;
  stale : (k : ℕ) → k < l.target → k < options l.network → least_of (options l.network) l.fn.arcs.least l.option k ≡ Some l.group
      → is_fresh (options l.network) l.arcs.fresh l.option k ≡ false;
}
