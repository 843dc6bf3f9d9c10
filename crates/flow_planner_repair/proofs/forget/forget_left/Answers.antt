use Rattle.std.proofs.Common.{arith}
use Rattle.flow_planner_net.specs.Networks.{options, size}
use Rattle.flow_planner_net.proofs.Tables.{place-lt}
use Rattle.flow_planner_repair.proofs.forget.forget_left.Goals as goal

pub pins_of-requires : goal.pins_of-requires
pins_of-requires c =
    let network = c.args.network.now in
    let width = c.size.ensures.exact in
    rw width (omega (arith, c.requires.table, place-lt (size network) (options network) c.args.option c.args.group c.requires.option c.requires.group))
