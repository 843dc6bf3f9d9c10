use Rattle.std.proofs.Common.{◌≡◌}
use Rattle.lb_config_rules.proofs.named_acls.shared.Given as goal

abbrev pub invariant-loop-group : goal.invariant-loop-group
invariant-loop-group l = l.acls.items ≡ l.yielded
