use Rattle.std.proofs.Common.{◌≡◌, ◌*◌, ◌<◌, ℕ, length, None, false}
use Rattle.flow_planner_repair.specs.LeastArcs.{KnownAreSame, OthersAreSame, least_of, is_fresh}
use Rattle.flow_planner_repair.proofs.arcs.Arcs.clear.Given as goal

abbrev pub invariant-loop-target : goal.invariant-loop-target
invariant-loop-target l = record {
  pairs : length l.self.least ≡ l.width * l.width;
  none : (k : ℕ) → k < l.target → is_fresh l.width l.fn.self.fresh l.source k ≡ false → least_of l.width l.self.least l.source k ≡ None;
  known : KnownAreSame l.width l.source l.fn.self.fresh l.fn.self.least l.self.least;
  others : OthersAreSame l.width l.source l.fn.self.least l.self.least;
  fresh : l.self.fresh ≡ l.fn.self.fresh;
  looks : l.self.looks ≡ l.fn.self.looks;
}
