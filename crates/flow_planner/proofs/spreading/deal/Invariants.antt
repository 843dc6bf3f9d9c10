use Rattle.std.proofs.Common.{◌≡◌, ◌≢◌, ◌+◌, ◌<◌, ℕ}
use Rattle.flow_planner_net.specs.Networks.{size}
use Rattle.flow_planner_net.specs.States.{used_of, at}
use Rattle.flow_planner.specs.Fillings.{IsFilling, IsRoomy, placed_of}
use Rattle.flow_planner.proofs.spreading.deal.Given as goal

abbrev pub invariant-loop-left : goal.invariant-loop-left
invariant-loop-left l = record {
  roomy : IsRoomy l.network l.counts l.loads;
  filling : IsFilling l.network (used_of (size l.network) l.counts) (at l.loads);
  placed : placed_of l.network (used_of (size l.network) l.counts) l.group + l.left
      ≡ placed_of l.network (used_of (size l.network) l.fn.counts) l.group + l.fn.pins;
  others : (g : ℕ) → g < size l.network → g ≢ l.group
      → placed_of l.network (used_of (size l.network) l.counts) g ≡ placed_of l.network (used_of (size l.network) l.fn.counts) g;
}

abbrev pub decreases-loop-left : goal.decreases-loop-left
decreases-loop-left l = l.left
