use Rattle.std.proofs.Common.{◌≡◌, []}
use Rattle.lb_config.specs.Kept.{kept_behind}
use Rattle.lb_config.proofs.kept.kept_servers.Given as goal

abbrev pub invariant-loop-server : goal.invariant-loop-server
invariant-loop-server l = l.kept.items ≡ kept_behind [] l.yielded
