use Rattle.std.proofs.Common.{refl, sym, arith}
use Rattle.flow_planner_net.specs.States.{at}
use Rattle.flow_planner_repair.proofs.Labels.{dist-is, rank-is}
use Rattle.flow_planner_repair.proofs.Following.{followed_longer, followed_shorter}
use Rattle.flow_planner_repair.proofs.search.relax.Goals as goal

pub overflow_add-dist : goal.overflow_add-dist
overflow_add-dist c =
    omega (arith, dist-is c.args.labels.now c.args.source, c.requires.near, c.full.ensures.low)

pub returns-then-dist-labels-clause-followed : goal.returns-then-dist-labels-clause-followed
returns-then-dist-labels-clause-followed c =
    let network = c.args.network.now in
    let labels = c.args.labels.now in
    let price = at c.args.prices.now in
    let near = dist-is labels c.args.source in
    let there = dist-is labels c.args.target in
    followed_shorter network price c.args.via c.args.source labels c.args.target _ (omega arith)
    (omega (arith, c.full.ensures.exact, c.full-2.ensures.exact, c.requires.uphill)) (omega arith) refl refl (sym (rank-is labels c.args.target))

pub returns-else-dist-labels-clause-followed : goal.returns-else-dist-labels-clause-followed
returns-else-dist-labels-clause-followed c =
    let network = c.args.network.now in
    let labels = c.args.labels.now in
    let price = at c.args.prices.now in
    let near = dist-is labels c.args.source in
    let there = dist-is labels c.args.target in
    followed_longer network price c.args.via c.args.source labels c.args.target
    (omega (arith, c.full.ensures.exact, c.full-2.ensures.exact, c.requires.uphill))
