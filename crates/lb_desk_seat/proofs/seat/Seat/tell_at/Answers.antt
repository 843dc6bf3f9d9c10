use Rattle.lb_desk_seat.specs.Seats.{entries_at}
use Rattle.lb_desk_seat.proofs.Asking.{adds_at}
use Rattle.lb_desk_seat.proofs.seat.Seat.tell_at.Goals as goal

pub returns-clause-adds : goal.returns-clause-adds
returns-clause-adds g c =
    let first = c.in_ok-tell.ensures in
    let second = c.in_ok-reply.ensures in
    adds_at c.args.moment c.args.event c.in_ok-tell.field-0 c.in_ok-reply.reply
    (entries_at c.args.self.now) (entries_at c.tell.new.self) (entries_at c.tell-2.new.self)
    first.fits first.adds.0 second.adds.0
