use Rattle.std.proofs.Common.{◌≡◌, ◌<◌, ℕ, true}
use Rattle.flow_planner_repair.specs.LeastArcs.{is_fresh}
use Rattle.flow_planner_repair.proofs.arcs.Arcs.are_fresh.Given as goal

abbrev pub invariant-loop-target : goal.invariant-loop-target
invariant-loop-target l = (k : ℕ) → k < l.target → is_fresh l.width l.self.fresh l.source k ≡ true
