use Rattle.std.proofs.Common.{◌≡◌, ◌+◌, ◌*◌, ◌≤◌}
use Rattle.flow_planner_net.specs.Networks.{options, size}
use Rattle.flow_planner_net.specs.States.{used_of}
use Rattle.flow_planner_repair.specs.LeastArcs.{AreArcs, AreFound, AreOfGroups, KnownAreSame, OthersAreSame}
use Rattle.flow_planner_repair.proofs.arcs.Arcs.find_among.Given as goal

abbrev pub invariant-loop-step : goal.invariant-loop-step
invariant-loop-step l = record {
  arcs : AreArcs l.network l.self;
  groups : AreOfGroups l.network l.source l.self.least;
  others : OthersAreSame (options l.network) l.source l.fn.self.least l.self.least;
  known : KnownAreSame (options l.network) l.source l.fn.self.fresh l.fn.self.least l.self.least;
  found : AreFound l.network (used_of (size l.network) l.counts) l.from l.source l.fn.self.least l.fn.self.fresh
      → AreFound l.network (used_of (size l.network) l.counts) (l.from + l.step) l.source l.self.least l.fn.self.fresh;
  fresh : l.self.fresh ≡ l.fn.self.fresh;
  looks : l.self.looks ≤ l.fn.self.looks + l.step * options l.network;
  looks_stay : l.fn.self.looks ≤ l.self.looks;
}
