use Rattle.lb_config.proofs.InRange.{nothing_said}
use Rattle.lb_config.proofs.proxies_so_far.ProxiesSoFar.none.Goals as goal

pub invariant_of-result : goal.invariant_of-result
invariant_of-result c = rw c.none.ensures nothing_said
