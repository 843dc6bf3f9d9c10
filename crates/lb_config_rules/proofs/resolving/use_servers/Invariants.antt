use Rattle.std.proofs.Common.{◌≡◌}
use Rattle.std.specs.List.{filter_map}
use Rattle.lb_config_rules.specs.Resolved.{use_server_by}
use Rattle.lb_config_rules.proofs.resolving.use_servers.Given as goal

abbrev pub invariant-loop-rule : goal.invariant-loop-rule
invariant-loop-rule l = l.use_servers.items ≡ filter_map (use_server_by l.servers l.acls) l.yielded
