use Rattle.std.proofs.Common.{◌≡◌, drop}
use Rattle.lb_config_rules.specs.Groups.{lines_in}
use Rattle.lb_config_rules.proofs.named_acls.NamedAcls.find.Given as goal

abbrev pub invariant-loop-acl : goal.invariant-loop-acl
invariant-loop-acl l = lines_in (drop l.acl-index l.acl-items) l.name ≡ lines_in l.acl-items l.name
