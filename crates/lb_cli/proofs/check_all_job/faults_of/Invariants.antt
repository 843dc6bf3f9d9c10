use Rattle.std.proofs.Common.{◌≡◌, ◌-◌, ◌++◌, map, None}
use Rattle.lb_cli.specs.CheckingAll.{faults_after}
use Rattle.lb_cli.specs.declared.check_all_job.TheConstants.{MOST_FAULTS}
use Rattle.lb_cli.proofs.check_all_job.faults_of.Given as goal

-- the faults so far, and those of the text that is left
abbrev pub invariant-loop : goal.invariant-loop
invariant-loop l =
    map (λ said. said.0) l.faults.items ++ faults_after l.last (MOST_FAULTS - l.counter) l.left.items ≡ faults_after None MOST_FAULTS l.text
