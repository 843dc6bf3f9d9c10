use Rattle.std.proofs.Common.{refl}
use Rattle.flow_planner_net.specs.States.{used_of}
use Rattle.flow_planner_repair.proofs.push.pins_of.Goals as goal

pub returns : goal.returns
unfolding used_of
returns c = refl
