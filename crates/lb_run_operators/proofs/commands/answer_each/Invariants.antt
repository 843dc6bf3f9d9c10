use Rattle.std.proofs.Common.{◌≡◌, map}
use Rattle.lb_run_operators.proofs.commands.answer_each.Given as goal

-- each seat is at its backend, however many operators were answered
abbrev pub invariant-loop : goal.invariant-loop
invariant-loop g l =
    (goal.iterator-loop g).can_next l.iterator' × (goal.iterator-loop g).is_finite l.iterator' × (map g.D.Seat.Mover.backend l.seats ≡ map g.D.Seat.Mover.backend l.fn.seats)
