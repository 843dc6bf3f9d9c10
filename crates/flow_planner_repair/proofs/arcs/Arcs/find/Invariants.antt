use Rattle.std.proofs.Common.{◌≡◌, ◌+◌, ◌-◌, ◌*◌, ◌≤◌}
use Rattle.flow_planner_net.specs.Networks.{options, size}
use Rattle.flow_planner_net.specs.States.{used_of}
use Rattle.flow_planner_repair.specs.LeastArcs.{AreArcs}
use Rattle.flow_planner_repair.proofs.ArcSteps.{IsFinding}
use Rattle.flow_planner_repair.proofs.arcs.Arcs.find.Given as goal

abbrev pub invariant-loop-from : goal.invariant-loop-from
invariant-loop-from l = record {
  within : l.from ≤ size l.network;
  arcs : AreArcs l.network l.self;
  finding : IsFinding l.network (used_of (size l.network) l.counts) l.source l.fn.self.fresh l.fn.self.least l.self.least l.from;
  fresh : l.self.fresh ≡ l.fn.self.fresh;
  looks : l.self.looks ≤ l.fn.self.looks + l.from * options l.network;
  looks_stay : l.fn.self.looks ≤ l.self.looks;
}

abbrev pub decreases-loop-from : goal.decreases-loop-from
decreases-loop-from l = size l.network - l.from
