use Rattle.flow_planner_law.proofs.Accepting.{plans_are_accepted}
use Rattle.flow_planner_law.proofs.laws.plans_are_accepted.Goals as goal

pub returns : goal.returns
returns c = plans_are_accepted
