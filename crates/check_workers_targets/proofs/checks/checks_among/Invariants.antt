use Rattle.std.proofs.Common.{◌≡◌, ◌-◌, ◌≤◌, length, take}
use Rattle.check_workers_targets.specs.Targets.{checks_from}
use Rattle.check_workers_targets.proofs.checks.checks_among.Given as goal

-- the checks of the servers in front
abbrev pub invariant-loop-place : goal.invariant-loop-place
invariant-loop-place l = record {
  checks : l.checks.items ≡ checks_from 0 (take l.place l.servers);
  within : l.place ≤ length l.servers;
}

abbrev pub decreases-loop-place : goal.decreases-loop-place
decreases-loop-place l = length l.servers - l.place
