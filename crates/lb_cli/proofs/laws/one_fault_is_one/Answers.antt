use Rattle.lb_cli.proofs.AllFaults.{one_fault_is_one}
use Rattle.lb_cli.proofs.laws.one_fault_is_one.Goals as goal

pub returns : goal.returns
returns c = one_fault_is_one
