use Rattle.lb_types.proofs.Sets.{has-empty}
use Rattle.lb_types.proofs.server_set.ServerSet.empty.Goals as goal

pub returns-clause-none : goal.returns-clause-none
returns-clause-none c = has-empty
