use Rattle.std.proofs.Common.{ap, arith}
use Rattle.lb_desk_tie.proofs.Moves.{enters}
use Rattle.lb_desk_tie.proofs.steps.admit.Goals as goal

pub split_seat-requires : goal.split_seat-requires
split_seat-requires g c =
    (c.requires.table, omega (arith, c.requires.one_word), enters _ _ (ap (λ m. m.0.keeps) c.requires.keeper))
