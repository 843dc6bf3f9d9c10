use Rattle.std.proofs.Common.{◌<◌, arith}
use Rattle.flow_planner_net.specs.Networks.{options, size}
use Rattle.flow_planner_net.proofs.Numbers.{cost-le}
use Rattle.flow_planner_net.proofs.Tables.{place-lt}
use Rattle.flow_planner_repair.proofs.arcs.Arcs.is_less.Goals as goal

pub least-requires : goal.least-requires
least-requires c =
    let network = c.args.network.now in
    let all = c.options.ensures.exact in
    rw all (omega (arith, c.requires.arcs.pairs, place-lt (options network) (options network) c.args.source c.args.target c.requires.source c.requires.target))

pub overflow_add-result : goal.overflow_add-result
overflow_add-result c =
    let network = c.args.network.now in
    let lawful = c.options.ensures.lawful in
    let there : c.in-Some.best < size network = omega (arith, c.if-size-best.false, c.size.ensures.exact) in
    let low = lawful.low in
    omega (
      arith,
      low,
      c.cost.ensures.exact,
      c.cost-2.ensures.exact,
      cost-le network lawful c.args.group c.args.target c.requires.group,
      cost-le network lawful c.in-Some.best c.args.source there,
    )

pub overflow_add-result-2 : goal.overflow_add-result-2
overflow_add-result-2 c =
    let network = c.args.network.now in
    let lawful = c.options.ensures.lawful in
    let there : c.in-Some.best < size network = omega (arith, c.if-size-best.false, c.size.ensures.exact) in
    let low = lawful.low in
    omega (
      arith,
      low,
      c.cost-3.ensures.exact,
      c.cost-4.ensures.exact,
      cost-le network lawful c.in-Some.best c.args.target there,
      cost-le network lawful c.args.group c.args.source c.requires.group,
    )
