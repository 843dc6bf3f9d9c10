use Rattle.std.proofs.Common.{◌≡◌, ◌+◌, ◌<◌, ◌≤◌, ℕ}
use Rattle.flow_planner_net.specs.Networks.{size, count}
use Rattle.flow_planner_net.specs.States.{used_of, at}
use Rattle.flow_planner.specs.Fillings.{IsFilling, IsRoomy, placed_of, waiting}
use Rattle.flow_planner.proofs.placing.start.Given as goal

abbrev pub invariant-loop-group : goal.invariant-loop-group
invariant-loop-group l = record {
  roomy : IsRoomy l.network l.counts l.loads;
  filling : IsFilling l.network (used_of (size l.network) l.counts) (at l.loads);
  done : (g : ℕ) → g < l.group → placed_of l.network (used_of (size l.network) l.counts) g ≡ count l.network g;
  rest : (g : ℕ) → l.group ≤ g → g < size l.network → placed_of l.network (used_of (size l.network) l.counts) g + waiting l.network g ≡ count l.network g;
}
