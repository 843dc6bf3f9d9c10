use Rattle.lb_desk_seen.proofs.Logged.{headline_of_a_log}
use Rattle.lb_desk_seen.proofs.logs.headline_of_logs.Goals as goal

pub returns : goal.returns
returns c = headline_of_a_log
