use Rattle.flow_planner_net.specs.Networks.{options}
use Rattle.flow_planner_net.specs.States.{at}
use Rattle.flow_planner_repair.specs.LeastArcs.{least_of}
use Rattle.flow_planner_repair.proofs.Following.{AreFollowed}
use Rattle.flow_planner_repair.proofs.search.settle.Given as goal

abbrev pub invariant-loop-target : goal.invariant-loop-target
invariant-loop-target l =
    AreFollowed l.network (at l.prices) (least_of (options l.network) l.arcs.least l.here) l.here l.fn.labels l.labels (options l.network) l.target
