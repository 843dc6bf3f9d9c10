use Rattle.std.proofs.Common.{◌-◌, ◌≤◌, length, take}
use Rattle.check_workers_round.proofs.Firsts.{IsFound}
use Rattle.check_workers_round.proofs.check.first_due.Given as goal

-- of the checks in front, this one is due first
abbrev pub invariant-loop-place : goal.invariant-loop-place
invariant-loop-place g l = record {
  found : IsFound (g.P.Probes.under_way l.fn.probes) (take l.place l.fn.checks) l.found;
  within : l.place ≤ length l.fn.checks;
}

abbrev pub decreases-loop-place : goal.decreases-loop-place
decreases-loop-place g l = length l.fn.checks - l.place
