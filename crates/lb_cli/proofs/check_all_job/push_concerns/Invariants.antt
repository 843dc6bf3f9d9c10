use Rattle.std.proofs.Common.{◌≡◌, ◌++◌, take}
use Rattle.std.specs.List.{flat_map}
use Rattle.lb_cli.specs.CheckingAll.{aside}
use Rattle.lb_cli.proofs.check_all_job.push_concerns.Given as goal

-- the lines of the warnings so far
abbrev pub invariant-loop-concern : goal.invariant-loop-concern
invariant-loop-concern l = l.text.items ≡ l.fn.text.items ++ flat_map aside (take l.concern-index l.concerns)
