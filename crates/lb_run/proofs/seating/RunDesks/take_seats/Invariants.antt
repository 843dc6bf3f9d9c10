use Rattle.std.proofs.Common.{◌≡◌, map, take}
use Rattle.lb_desk_seat.specs.Seats.{SeatView}
use Rattle.lb_run.proofs.seating.RunDesks.take_seats.Given as goal

-- a seat at each desk so far, in their order
abbrev pub invariant-loop-desk : goal.invariant-loop-desk
invariant-loop-desk g l = map (λ (seat : SeatView). seat.pass.keeper) l.seats.items ≡ take l.desk-index l.self.desks.now
