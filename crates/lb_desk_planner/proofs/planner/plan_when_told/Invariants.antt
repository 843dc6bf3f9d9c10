use Rattle.lb_desk_planner.specs.Told.{PlansAsTold, ledger}
use Rattle.lb_desk_planner.proofs.planner.plan_when_told.Given as goal

abbrev pub invariant-loop : goal.invariant-loop
invariant-loop g l =
    let entries = g.M.Mover.entries in
    let planned = g.M.Mover.planned_now in
    let refusals = g.M.Mover.refusals in record {
      can_next : (goal.iterator-loop g).can_next l.iterator';
      is_finite : (goal.iterator-loop g).is_finite l.iterator';
      told :
          PlansAsTold l.tries
          (ledger l.fn.notices (entries l.fn.mover) (planned l.fn.mover) (refusals l.fn.mover))
          (ledger l.notices (entries l.mover) (planned l.mover) (refusals l.mover));
    }
