use Rattle.std.proofs.Common.{◌*◌, ◌≤◌, ap, subst, arith}
use Rattle.std.specs.List.{sum_by}
use Rattle.lb_types_pins.specs.declared.kind.Group.{Group}
use Rattle.flow_planner_net.specs.Networks.{NetworkParts}
use Rattle.flow_planner_repair.specs.LeastArcs.{ArcsParts}
use Rattle.flow_planner_repair.specs.Repairs.{most_looks}
use Rattle.flow_planner_law.specs.Accepted.{network_of}
use Rattle.flow_planner.specs.Plannings.{PlannedParts}
use Rattle.flow_planner.proofs.Writing.{planned-lawful, pins-are, all_looks-le}
use Rattle.flow_planner.proofs.planner.planned.Goals as goal

pub new-requires-2 : goal.new-requires-2
new-requires-2 c =
    planned-lawful c.args.sheet.now c.in_ok-plan.plan c.solve-pushes.result c.looks.result c.in_ok-plan.ensures.version c.in_ok-plan.ensures.accepted

pub returns-clause-pushes : goal.returns-clause-pushes
returns-clause-pushes c =
    let told = ap (λ (planned : PlannedParts). planned.pushes) c.new-2.ensures in
    let groups = ap (λ (network : NetworkParts). sum_by (λ (g : Group). g.count) network.groups) c.requires in
    omega (arith, told, groups, pins-are c.args.network.now, c.solve-pushes.ensures.pushes)

pub returns-clause-looks : goal.returns-clause-looks
returns-clause-looks c =
    let sheet = c.args.sheet.now in
    let pushes = c.solve-pushes.result in
    let seen = ap (λ (arcs : ArcsParts). arcs.looks) c.arcs.view_is in
    let counted : c.looks.result ≤ pushes * most_looks c.args.network.now = omega (arith, seen, c.looks.ensures, c.solve-pushes.ensures.looks) in
    let bound : c.looks.result ≤ pushes * most_looks (network_of sheet) =
    subst (λ (network : NetworkParts). c.looks.result ≤ pushes * most_looks network) c.requires counted in
    rw c.new-2.ensures (omega (arith, bound, all_looks-le sheet pushes))
