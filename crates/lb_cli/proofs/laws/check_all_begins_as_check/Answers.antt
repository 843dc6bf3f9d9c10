use Rattle.lb_cli.proofs.AllFaults.{begins_as_check}
use Rattle.lb_cli.proofs.laws.check_all_begins_as_check.Goals as goal

pub returns : goal.returns
returns c = begins_as_check
