use Rattle.cert_check_law.proofs.Agreeing.{total_cost-same, least_total-same, agreeing_are_best}
use Rattle.cert_check_law.proofs.laws.agreeing_are_best.Goals as goal

pub returns-clause-cost : goal.returns-clause-cost
returns-clause-cost c = total_cost-same

pub returns-clause-least : goal.returns-clause-least
returns-clause-least c = least_total-same

pub returns-clause-best : goal.returns-clause-best
returns-clause-best c = agreeing_are_best
