use Rattle.flow_planner_net.proofs.Slackness.{states_are_shown}
use Rattle.flow_planner_net.proofs.laws.states_are_shown.Goals as goal

pub returns : goal.returns
returns c = states_are_shown
