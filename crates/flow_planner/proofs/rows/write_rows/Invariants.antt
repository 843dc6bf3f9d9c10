use Rattle.std.proofs.Common.{◌≡◌}
use Rattle.flow_planner_net.specs.Networks.{size}
use Rattle.flow_planner_net.specs.States.{used_of}
use Rattle.flow_planner_net.specs.RowLists.{rows_to}
use Rattle.flow_planner.proofs.rows.write_rows.Given as goal

abbrev pub invariant-loop-group : goal.invariant-loop-group
invariant-loop-group l = l.rows.items ≡ rows_to l.network (used_of (size l.network) l.counts) l.group
