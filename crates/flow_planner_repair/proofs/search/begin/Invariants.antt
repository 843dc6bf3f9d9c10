use Rattle.std.proofs.Common.{◌≡◌, ◌<◌, ℕ}
use Rattle.flow_planner_repair.specs.Searches.{far, dist, rank}
use Rattle.flow_planner_repair.proofs.search.begin.Given as goal

abbrev pub invariant-loop-label : goal.invariant-loop-label
invariant-loop-label l = record {
  far : (o : ℕ) → o < l.label-index → dist l.labels o ≡ far;
  rank : (o : ℕ) → o < l.label-index → rank l.labels o ≡ l.options;
}
