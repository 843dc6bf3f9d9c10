use Rattle.lb_desk_seat.specs.Seats.{entries_at}
use Rattle.lb_desk_seat.proofs.Asking.{asked_adds}
use Rattle.lb_desk_seat.proofs.seat.Seat.serve.Goals as goal

pub returns-clause-adds : goal.returns-clause-adds
returns-clause-adds g c =
    let first = c.in_ok-tell.ensures in
    let second = c.in_ok-reply.ensures in
    asked_adds c.args.request c.in_ok-tell.field-0 c.in_ok-reply.reply c.asked.result
    (entries_at c.args.self.now) (entries_at c.tell.new.self) (entries_at c.tell-2.new.self)
    first.fits first.adds.0 second.fits second.adds.0 c.asked.ensures
