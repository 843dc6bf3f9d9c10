use Rattle.std.proofs.Common.{◌≡◌, length}
use Rattle.lb_acl.specs.Paths.{behind_scheme}
use Rattle.lb_acl.proofs.path.behind_scheme.Given as goal

abbrev pub invariant-loop-behind : goal.invariant-loop-behind
invariant-loop-behind l = behind_scheme l.rest ≡ behind_scheme l.fn.target

abbrev pub decreases-loop-behind : goal.decreases-loop-behind
decreases-loop-behind l = length l.rest
