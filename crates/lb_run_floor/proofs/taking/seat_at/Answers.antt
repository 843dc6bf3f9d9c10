use Rattle.std.proofs.Common.{◌≤◌, length, arith}
use Rattle.lb_run_floor.proofs.InOrder.{err_then, in_order, ok_then}
use Rattle.lb_run_floor.proofs.taking.seat_at.Goals as goal

pub returns-clause-desk : goal.returns-clause-desk
returns-clause-desk g c =
    let floor = c.args.floor.now in
    ok_then _ _ c.seat_at.result
    (λ seat at. (in_order floor.config.now.backends (g.D.Desks.opened floor.desks) floor.complete).each c.args.place _ at) c.seat_at.ensures.desk

pub returns-clause-no_backend : goal.returns-clause-no_backend
returns-clause-no_backend g c =
    let floor = c.args.floor.now in
    err_then (length (g.D.Desks.opened floor.desks) ≤ c.args.place) (length floor.config.now.backends ≤ c.args.place) c.seat_at.result
    (λ past. omega (arith, past, floor.complete.count)) c.seat_at.ensures.no_desk
