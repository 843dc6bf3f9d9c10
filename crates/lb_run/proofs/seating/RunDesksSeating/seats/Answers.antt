use Rattle.std.proofs.Common.{◌∙◌, ℕ, List, map, ap}
use Rattle.lb_desk_seat.specs.Seats.{SeatView}
use Rattle.lb_run_floor.proofs.InOrder.{ok_then}
use Rattle.lb_run.specs.Runs.{opened_as}
use Rattle.lb_run.proofs.Order.{map_of}
use Rattle.lb_run.proofs.seating.RunDesksSeating.seats.Goals as goal

pub returns-clause-desks : goal.returns-clause-desks
returns-clause-desks g c =
    let opened = opened_as g.B.Naming.opening g.B.Naming.journal_size in
    ok_then _ _ c.take_seats.result
    (λ seats are. map_of opened (λ (seat : SeatView). seat.pass.keeper) seats.items ∙ ap (λ (l : List ℕ). map opened l) are) c.take_seats.ensures.desks
