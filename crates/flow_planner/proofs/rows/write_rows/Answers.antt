use Rattle.std.proofs.Common.{◌++◌, List, sym, ap, ◌∙◌}
use Rattle.lb_types_pins.specs.declared.kind.Row.{Row}
use Rattle.flow_planner_net.specs.Networks.{options, size}
use Rattle.flow_planner_net.specs.States.{used_of}
use Rattle.flow_planner_net.specs.RowLists.{group_rows}
use Rattle.flow_planner.proofs.RowSteps.{rows_to-none, rows_to-more}
use Rattle.flow_planner.proofs.rows.write_rows.Goals as goal

pub loop-group-init : goal.loop-group-init
loop-group-init c =
    let network = c.args.network.now in
    c.new-rows.ensures.items ∙ sym (rows_to-none network (used_of (size network) c.args.counts.now))

pub loop-group-preserved : goal.loop-group-preserved
loop-group-preserved c =
    let network = c.args.network.now in
    let used = used_of (size network) c.args.counts.now in
    let g = c.loop-group.group in
    c.in_ok-add_rows.ensures
    ∙ (ap (λ (rows : List Row). rows ++ group_rows network used g (options network)) c.loop-group.invariant ∙ sym (rows_to-more network used g))
