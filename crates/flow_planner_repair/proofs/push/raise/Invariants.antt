use Rattle.std.proofs.Common.{◌≡◌, ◌<◌, ◌≤◌, ℕ}
use Rattle.flow_planner_net.specs.Networks.{limit}
use Rattle.flow_planner_net.specs.States.{at}
use Rattle.flow_planner_repair.specs.Searches.{dist}
use Rattle.flow_planner_repair.specs.Pushes.{raised}
use Rattle.flow_planner_repair.proofs.push.raise.Given as goal

abbrev pub invariant-loop-option : goal.invariant-loop-option
invariant-loop-option l = record {
  done : (o : ℕ) → o < l.option → at l.prices o ≡ raised (limit l.network) l.reach (dist l.labels o) (at l.fn.prices o);
  rest : (o : ℕ) → l.option ≤ o → at l.prices o ≡ at l.fn.prices o;
}
