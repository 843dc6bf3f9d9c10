-- Which of two checks is due before the other. Our own.
use Rattle.std.specs.Prelude.{ℕ, Bool, true, nat_lt, Option, Some, None}
use Rattle.check_workers_round.specs.declared.check.Check.{Check}

-- the check is due before the one that was found so far, if one was
abbrev pub is_sooner : Check → Option (ℕ × Check) → Bool
is_sooner check (Some found) = nat_lt check.due found.1.due
is_sooner check None = true
