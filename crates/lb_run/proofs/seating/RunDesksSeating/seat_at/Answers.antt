use Rattle.std.proofs.Common.{◌≤◌, length, map, arith}
use Rattle.std.proofs.lemmas.List.{length-map}
use Rattle.lb_run_floor.proofs.InOrder.{err_then, ok_then}
use Rattle.lb_run.specs.Runs.{opened_as}
use Rattle.lb_run.proofs.Order.{map_at}
use Rattle.lb_run.proofs.seating.RunDesksSeating.seat_at.Goals as goal

pub returns-clause-desk : goal.returns-clause-desk
returns-clause-desk g c =
    let desks = c.args.self.now.desks.now in
    ok_then _ _ c.take_seat.result
    (λ seat at. map_at (opened_as g.B.Naming.opening g.B.Naming.journal_size) desks c.args.place seat.pass.keeper at) c.take_seat.ensures.desk

pub returns-clause-no_desk : goal.returns-clause-no_desk
returns-clause-no_desk g c =
    let desks = c.args.self.now.desks.now in
    let opened = opened_as g.B.Naming.opening g.B.Naming.journal_size in
    err_then (length desks ≤ c.args.place) (length (map opened desks) ≤ c.args.place) c.take_seat.result
    (λ past. omega (arith, past, length-map desks opened)) c.take_seat.ensures.no_desk
