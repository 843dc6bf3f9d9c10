use Rattle.std.proofs.Common.{◌≡◌, ◌≤◌, ◌<◌, ℕ, length, false}
use Rattle.flow_planner_repair.specs.LeastArcs.{AreOptions, IsListed, is_fresh}
use Rattle.flow_planner_repair.proofs.arcs.Arcs.stale_targets.Given as goal

abbrev pub invariant-loop-target : goal.invariant-loop-target
invariant-loop-target l = record {
  len : length l.targets ≡ length l.fn.targets;
  few : l.stale ≤ l.target;
  options : AreOptions l.width l.targets l.stale;
  listed : (k : ℕ) → k < l.target → is_fresh l.width l.self.fresh l.source k ≡ false → IsListed l.targets l.stale k;
}
