use Rattle.std.proofs.Common.{arith}
use Rattle.flow_planner_net.proofs.Tables.{at-read}
use Rattle.flow_planner_net.proofs.Numbers.{cost-le}
use Rattle.flow_planner_net.proofs.Loads.{full-is}
use Rattle.flow_planner_net.specs.States.{at}
use Rattle.flow_planner_repair.proofs.search.full.Goals as goal

pub overflow_add-result : goal.overflow_add-result
overflow_add-result c =
    let lawful = c.cost.ensures.lawful in
    let low = lawful.low in
    omega (arith, low, c.cost.ensures.exact, cost-le c.args.network.now lawful c.args.group c.args.option c.requires.group, at-read c.args.prices.now c.args.option, c.requires.low c.args.option c.requires.option)

pub returns : goal.returns
returns c =
    let lawful = c.cost.ensures.lawful in
    let low = lawful.low in
    record {
      exact = omega (arith, c.cost.ensures.exact, full-is c.args.network.now (at c.args.prices.now) c.args.group c.args.option, at-read c.args.prices.now c.args.option);
      low = omega (arith, low, c.cost.ensures.exact, cost-le c.args.network.now lawful c.args.group c.args.option c.requires.group, at-read c.args.prices.now c.args.option, c.requires.low c.args.option c.requires.option);
    }
