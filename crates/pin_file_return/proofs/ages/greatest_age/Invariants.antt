use Rattle.std.proofs.Common.{take}
use Rattle.pin_file_return.specs.Ages.{IsGreatestAge}
use Rattle.pin_file_return.proofs.ages.greatest_age.Given as goal

-- the greatest age of the backends so far
abbrev pub invariant-loop-backend : goal.invariant-loop-backend
invariant-loop-backend l = IsGreatestAge (take l.backend-index l.file) l.greatest
