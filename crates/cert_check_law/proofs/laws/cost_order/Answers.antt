use Rattle.pin_set.specs.Assignments.{unplaced_cost}
use Rattle.cert_check_law.proofs.Duality.{total_cost-split, spent-lt}
use Rattle.cert_check_law.proofs.laws.cost_order.Goals as goal

pub returns-clause-split : goal.returns-clause-split
returns-clause-split c = λ pins a whole. total_cost-split (unplaced_cost pins) pins a whole

pub returns-clause-moves_cost_less : goal.returns-clause-moves_cost_less
returns-clause-moves_cost_less c = spent-lt
