use Rattle.std.proofs.Common.{◌≡◌, ◌++◌}
use Rattle.flow_planner_net.specs.Networks.{size}
use Rattle.flow_planner_net.specs.States.{used_of}
use Rattle.flow_planner_net.specs.RowLists.{group_rows}
use Rattle.flow_planner.proofs.rows.add_rows.Given as goal

abbrev pub invariant-loop-option : goal.invariant-loop-option
invariant-loop-option l =
    l.rows.items ≡ l.fn.rows.items ++ group_rows l.network (used_of (size l.network) l.counts) l.group l.option
