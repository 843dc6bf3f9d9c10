use Rattle.std.proofs.Common.{◌≡◌, ◌≤◌, ◌+◌}
use Rattle.flow_planner_repair.specs.LeastArcs.{AreArcs}
use Rattle.flow_planner_repair.proofs.ArcSteps.{IsOffered}
use Rattle.flow_planner_repair.proofs.arcs.Arcs.offer.Given as goal

abbrev pub invariant-loop-target : goal.invariant-loop-target
invariant-loop-target l = record {
  arcs : AreArcs l.network l.self;
  offered : IsOffered l.network l.source l.group l.fn.self.fresh l.targets l.fn.self.least l.self.least l.target-index;
  fresh : l.self.fresh ≡ l.fn.self.fresh;
  looks : l.self.looks ≤ l.fn.self.looks + l.target-index;
  looks_stay : l.fn.self.looks ≤ l.self.looks;
}
