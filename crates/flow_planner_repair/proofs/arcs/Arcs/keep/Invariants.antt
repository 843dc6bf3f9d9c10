use Rattle.std.proofs.Common.{◌≡◌, ◌≢◌, ◌*◌, ◌<◌, ℕ, length}
use Rattle.flow_planner_repair.specs.LeastArcs.{is_fresh}
use Rattle.flow_planner_repair.proofs.arcs.Arcs.keep.Given as goal

abbrev pub invariant-loop-target : goal.invariant-loop-target
invariant-loop-target l = record {
  least : l.self.least ≡ l.fn.self.least;
  looks : l.self.looks ≡ l.fn.self.looks;
  marks : length l.self.fresh ≡ l.width * l.width;
  others : (o k : ℕ) → k < l.width → o ≢ l.source → is_fresh l.width l.self.fresh o k ≡ is_fresh l.width l.fn.self.fresh o k;
}
