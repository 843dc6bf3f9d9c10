use Rattle.std.proofs.Common.{sym, ap, subst, ◌∙◌, arith}
use Rattle.flow_planner_net.specs.Networks.{IsNetwork}
use Rattle.flow_planner_law.specs.Accepted.{capacities_of, unplaced_cost_of}
use Rattle.flow_planner_law.proofs.Lawful.{network-lawful}
use Rattle.flow_planner.proofs.Writing.{network-is}
use Rattle.flow_planner.proofs.planner.plan.Goals as goal

pub unplaced_cost-requires : goal.unplaced_cost-requires
unplaced_cost-requires c =
    let sheet = c.args.sheet.now in
    let low = (network-lawful sheet c.groups-groups.ensures.lawful).low in
    omega (arith, low, ap unplaced_cost_of c.groups-groups.ensures.exact)

pub new-network-requires : goal.new-network-requires
new-network-requires c =
    let sheet = c.args.sheet.now in
    let room = c.deref.ensures.value ∙ (c.in_ok-capacities.ensures ∙ ap capacities_of c.servers.ensures.exact) in
    let same = network-is sheet c.unplaced_cost.result c.groups-groups.result.now c.deref.result.now c.groups-groups.ensures.exact c.unplaced_cost.ensures room in
    subst IsNetwork (sym same) (network-lawful sheet c.groups-groups.ensures.lawful)
