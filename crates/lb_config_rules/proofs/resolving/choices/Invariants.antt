use Rattle.std.proofs.Common.{◌≡◌}
use Rattle.std.specs.List.{filter_map}
use Rattle.lb_config_rules.specs.Resolved.{choice_by}
use Rattle.lb_config_rules.proofs.resolving.choices.Given as goal

abbrev pub invariant-loop-rule : goal.invariant-loop-rule
invariant-loop-rule l = l.choices.items ≡ filter_map (choice_by l.backends l.acls) l.yielded
