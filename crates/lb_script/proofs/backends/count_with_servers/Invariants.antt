use Rattle.std.proofs.Common.{◌≡◌, take, count_by}
use Rattle.lb_script.specs.Backends.{has_servers}
use Rattle.lb_script.proofs.backends.count_with_servers.Given as goal

abbrev pub invariant-loop-backend : goal.invariant-loop-backend
invariant-loop-backend l = l.count ≡ count_by has_servers (take l.backend-index l.backends)
