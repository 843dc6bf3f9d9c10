use Rattle.std.proofs.Common.{map}
use Rattle.lb_desk_backend.specs.Configured.{OpenInOrder}
use Rattle.lb_run_pins.proofs.saving.save_often.Given as goal

-- each seat is at its backend, however often the pins were written
abbrev pub invariant-loop : goal.invariant-loop
invariant-loop g l =
    (goal.iterator-loop g).can_next l.iterator' × (goal.iterator-loop g).is_finite l.iterator'
    × OpenInOrder l.floor.config.now.backends (map g.D.Seat.Mover.backend l.seats.items)
