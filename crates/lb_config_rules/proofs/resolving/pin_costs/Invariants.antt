use Rattle.std.proofs.Common.{◌≡◌, map}
use Rattle.lb_config_rules.specs.Resolved.{pin_cost_by}
use Rattle.lb_config_rules.proofs.resolving.pin_costs.Given as goal

abbrev pub invariant-loop-rule : goal.invariant-loop-rule
invariant-loop-rule l = l.costs.items ≡ map (pin_cost_by l.acls) l.yielded
