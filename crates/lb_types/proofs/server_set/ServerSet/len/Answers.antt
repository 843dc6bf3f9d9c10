use Rattle.lb_types.specs.Servers.{members}
use Rattle.lb_types.proofs.Counts.{count_ones-members_below}
use Rattle.std.proofs.Common.{arith}
use Rattle.lb_types.proofs.server_set.ServerSet.len.Goals as goal

pub returns : goal.returns
unfolding members
returns c = rw (← c.self.view_is) (count_ones-members_below 128 c.self.inside.bits (omega arith))
