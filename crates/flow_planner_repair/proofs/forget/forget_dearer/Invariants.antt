use Rattle.std.proofs.Common.{◌≡◌, ◌<◌, ◌+◌, ℕ, true}
use Rattle.flow_planner_net.specs.Networks.{options, may}
use Rattle.flow_planner_repair.specs.LeastArcs.{AreFewer, IsNoLess, least_of, is_fresh}
use Rattle.flow_planner_repair.proofs.forget.forget_dearer.Given as goal

abbrev pub invariant-loop-target : goal.invariant-loop-target
invariant-loop-target l = record {
  fewer : AreFewer l.network l.fn.arcs l.arcs;
  looks : l.arcs.looks ≡ l.fn.arcs.looks + l.target;
  no_less : (k : ℕ) → k < l.target → k < options l.network → may l.network l.group k ≡ true → is_fresh (options l.network) l.arcs.fresh l.option k ≡ true
      → IsNoLess l.network l.group l.option k (least_of (options l.network) l.fn.arcs.least l.option k);
}
