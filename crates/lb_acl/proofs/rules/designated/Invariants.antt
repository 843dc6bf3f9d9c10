use Rattle.std.proofs.Common.{◌≡◌, take}
use Rattle.lb_acl.specs.Rules.{designated}
use Rattle.lb_acl.proofs.rules.designated.Given as goal

abbrev pub invariant-loop-rule : goal.invariant-loop-rule
invariant-loop-rule l = l.servers.items ≡ designated l.head (take l.rule-index l.rules)
