use Rattle.flow_planner_net.proofs.RowSums.{sums_over_rows}
use Rattle.flow_planner_net.proofs.laws.sums_over_rows.Goals as goal

pub returns : goal.returns
returns c = sums_over_rows
