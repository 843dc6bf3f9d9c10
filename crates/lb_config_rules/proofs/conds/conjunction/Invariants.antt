use Rattle.std.proofs.Common.{◌≡◌, map}
use Rattle.lb_config_rules.specs.Groups.{term_by}
use Rattle.lb_config_rules.proofs.conds.conjunction.Given as goal

abbrev pub invariant-loop-unresolved : goal.invariant-loop-unresolved
invariant-loop-unresolved l = l.terms.items ≡ map (term_by l.acls) l.yielded
