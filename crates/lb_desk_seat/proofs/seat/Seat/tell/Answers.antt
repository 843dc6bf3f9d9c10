use Rattle.lb_desk_seat.proofs.Asking.{sight_grows}
use Rattle.lb_desk_seat.proofs.seat.Seat.tell.Goals as goal

pub returns-in_err-told-clause-sights : goal.returns-in_err-told-clause-sights
returns-in_err-told-clause-sights g c =
    let p = c.self.inside in
    rw (← c.self.view_is) (sight_grows _ p.pass c.tell.new.pass _ c.in_err-told.ensures.err)
