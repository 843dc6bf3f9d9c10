use Rattle.lb_desk_core.proofs.Expired.{zero_at}
use Rattle.lb_desk_core.proofs.expiring.let_all_go.Goals as goal

pub returns-clause-counted : goal.returns-clause-counted
returns-clause-counted g c = λ server. rw c.reload.ensures (zero_at 128 c.args.servers server)
