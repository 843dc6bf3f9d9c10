use Rattle.std.proofs.Common.{◌≡◌, drop}
use Rattle.lb_acl.specs.Rules.{pin_cost}
use Rattle.lb_acl.proofs.rules.pin_cost.Given as goal

abbrev pub invariant-loop-rule : goal.invariant-loop-rule
invariant-loop-rule l = pin_cost l.head (drop l.rule-index l.rules) ≡ pin_cost l.head l.rules
