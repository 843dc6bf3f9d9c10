use Rattle.lb_desk_planner.specs.Told.{Ledger, ledger}
use Rattle.lb_desk_planner.proofs.InTurn.{heard_one, one_more_told}
use Rattle.lb_desk_planner.proofs.planner.plan_when_told.Goals as goal

pub loop-preserved : goal.loop-preserved
loop-preserved g c =
    let entries = g.M.Mover.entries in
    let planned = g.M.Mover.planned_now in
    let refusals = g.M.Mover.refusals in
    let old : Ledger = ledger c.args.notices.now (entries c.args.mover.now) (planned c.args.mover.now) (refusals c.args.mover.now) in
    let mid : Ledger = ledger c.loop.notices (entries c.loop.mover) (planned c.loop.mover) (refusals c.loop.mover) in
    let new : Ledger = ledger c.hear.new.self (entries c.evacuate.new.mover) (planned c.evacuate.new.mover) (refusals c.evacuate.new.mover) in
    record {
      can_next = tt;
      is_finite = tt;
      told =
          one_more_told c.args.tries c.evacuate.result old mid new c.loop.invariant.told
          (record { heard = heard_one c.loop.notices c.hear.new.self c.hear.result c.if-not-hear.false c.hear.ensures; evacuates = c.evacuate.ensures.evacuates; refusals = c.evacuate.ensures.refusals });
    }
