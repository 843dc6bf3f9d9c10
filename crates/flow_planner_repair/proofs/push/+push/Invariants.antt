use Rattle.flow_planner_repair.specs.Searches.{rank}
use Rattle.flow_planner_repair.proofs.push.+push.Given as goal

abbrev pub decreases-push : goal.decreases-push
decreases-push l = rank l.labels.now l.option
