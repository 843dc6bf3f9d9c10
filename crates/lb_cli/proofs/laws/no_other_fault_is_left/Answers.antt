use Rattle.lb_cli.proofs.AllFaults.{no_other_is_left}
use Rattle.lb_cli.proofs.laws.no_other_fault_is_left.Goals as goal

pub returns : goal.returns
returns c = no_other_is_left
