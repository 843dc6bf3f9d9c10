use Rattle.std.proofs.Common.{◌≡◌, ◌+◌, drop}
use Rattle.lb_config_conditions.specs.CondLines.{bang_count}
use Rattle.lb_config_conditions.proofs.cond_draft.bang_count.Given as goal

abbrev pub invariant-loop-i : goal.invariant-loop-i
invariant-loop-i l = l.i + bang_count (drop l.i l.word) ≡ bang_count l.word
