use Rattle.std.proofs.Common.{◌≡◌, ◌≤◌, ◌+◌, ◌++◌, drop}
use Rattle.lb_cli.specs.CheckingAll.{kept_from}
use Rattle.lb_cli.proofs.check_all_job.without_line.Given as goal

-- what was kept so far, and what is kept of the rest
abbrev pub invariant-loop-byte : goal.invariant-loop-byte
invariant-loop-byte l =
    (l.kept.items ++ kept_from l.now l.line (drop l.byte-index l.text) ≡ kept_from 1 l.line l.text) × (l.now ≤ l.byte-index + 1)
