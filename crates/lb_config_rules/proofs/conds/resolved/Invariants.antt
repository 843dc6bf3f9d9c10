use Rattle.std.proofs.Common.{◌≡◌, map}
use Rattle.lb_config_rules.specs.Groups.{terms_by}
use Rattle.lb_config_rules.proofs.conds.resolved.Given as goal

abbrev pub invariant-loop-alternative : goal.invariant-loop-alternative
invariant-loop-alternative l = l.alternatives.items ≡ map (terms_by l.acls) l.yielded
