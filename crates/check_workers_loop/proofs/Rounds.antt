-- Rounds of checks, and one more behind them.
use Rattle.std.proofs.Common.{List, [], ◌∷◌, ◌++◌, refl, subst}
use Rattle.check_workers_round.specs.declared.outcome.Round.{Round}
use Rattle.check_workers_loop.specs.Loops.{Work, TakesOn, TakeOn}

take_on_more : (start here next : Work) (rounds : List Round) (round : Round) → TakeOn start here rounds → TakesOn here next round
    → TakeOn start next (rounds ++ round ∷ [])
take_on_more start here next [] round same one = (next, subst (λ w. TakesOn w next round) same one, refl)
take_on_more start here next (first ∷ more) round taken one = (taken.0, taken.1, take_on_more taken.0 here next more round taken.2 one)

-- the work is some rounds
abbrev pub IsRounds : Work → Work → Type 0
IsRounds start here = (rounds : List Round) × TakeOn start here rounds

pub one_more : {start here next : Work} → IsRounds start here → (round : Round) → TakesOn here next round → IsRounds start next
one_more {start} {here} {next} taken round one = (taken.0 ++ round ∷ [], take_on_more start here next taken.0 round taken.1 one)
