use Rattle.std.proofs.Common.{◌≡◌, ◌++◌, take}
use Rattle.std.specs.List.{flat_map}
use Rattle.lb_cli.specs.Checking.{warning_line}
use Rattle.lb_cli.proofs.check_job.push_warnings.Given as goal

-- the lines of the warnings so far
abbrev pub invariant-loop-warning : goal.invariant-loop-warning
invariant-loop-warning l = l.report.items ≡ l.fn.report.items ++ flat_map warning_line (take l.warning-index l.warnings)
