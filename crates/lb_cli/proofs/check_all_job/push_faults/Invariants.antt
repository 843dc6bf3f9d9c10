use Rattle.std.proofs.Common.{◌≡◌, ◌++◌, take}
use Rattle.std.specs.List.{flat_map}
use Rattle.lb_cli.specs.CheckingAll.{said_lines}
use Rattle.lb_cli.proofs.check_all_job.push_faults.Given as goal

-- the lines of the faults so far
abbrev pub invariant-loop-said : goal.invariant-loop-said
invariant-loop-said l = l.text.items ≡ l.fn.text.items ++ flat_map said_lines (take l.said-index l.faults)
