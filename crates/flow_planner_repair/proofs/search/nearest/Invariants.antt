use Rattle.std.proofs.Common.{◌<◌, ◌≤◌, ℕ}
use Rattle.flow_planner_net.specs.Networks.{options}
use Rattle.flow_planner_repair.specs.Searches.{dist, rank}
use Rattle.flow_planner_repair.proofs.search.nearest.Given as goal

abbrev pub invariant-loop-option : goal.invariant-loop-option
invariant-loop-option l = record {
  there : l.best < options l.network;
  open_yet : options l.network ≤ rank l.labels l.best;
  least : (k : ℕ) → k < l.option → options l.network ≤ rank l.labels k → dist l.labels l.best ≤ dist l.labels k;
}
