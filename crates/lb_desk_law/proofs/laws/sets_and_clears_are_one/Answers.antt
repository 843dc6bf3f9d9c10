use Rattle.lb_desk_law.proofs.SetsOnce.{sets_are_one, clears_are_one}
use Rattle.lb_desk_law.proofs.laws.sets_and_clears_are_one.Goals as goal

pub returns : goal.returns
returns c = record { sets = sets_are_one; clears = clears_are_one }
