use Rattle.std.proofs.Common.{◌≡◌, []}
use Rattle.lb_config_rules.specs.Groups.{with_lines}
use Rattle.lb_config_rules.proofs.named_acls.gathered.Given as goal

abbrev pub invariant-loop-line : goal.invariant-loop-line
invariant-loop-line l = l.groups.items ≡ with_lines [] l.yielded
