use Rattle.lb_types.proofs.Sets.{has-meet}
use Rattle.lb_types.proofs.server_set.ServerSet.meet.Goals as goal

pub returns-clause-members : goal.returns-clause-members
returns-clause-members c s = rw (c.self.view_is, c.other.view_is) (has-meet c.args.self c.args.other s)
