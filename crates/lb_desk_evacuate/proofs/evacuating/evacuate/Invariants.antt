use Rattle.std.proofs.Common.{◌≡◌, ◌+◌, ◌-◌, ◌≤◌}
use Rattle.lb_desk_evacuate.proofs.Trying.{HaveFailed}
use Rattle.lb_desk_evacuate.proofs.evacuating.evacuate.Given as goal

abbrev pub invariant-loop : goal.invariant-loop
invariant-loop g l = record {
  failed : HaveFailed l.counter (g.M.Mover.entries l.fn.mover) (g.M.Mover.entries l.mover);
  within : l.counter ≤ 1 + (l.tries - 1);
  planned : g.M.Mover.planned_now l.mover ≡ g.M.Mover.planned_now l.fn.mover;
  refusals : g.M.Mover.refusals l.mover ≡ g.M.Mover.refusals l.fn.mover;
  backend : g.M.Mover.backend l.mover ≡ g.M.Mover.backend l.fn.mover;
}
