use Rattle.std.proofs.Common.{◌≡◌, get_or, length, ap, subst, arith}
use Rattle.std.proofs.lemmas.List.{get_or_default}
use Rattle.lb_types_pins.specs.declared.kind.Group.{Group}
use Rattle.flow_planner_net.specs.Networks.{NetworkParts, no_group, count}
use Rattle.flow_planner_net.proofs.network.Network.count.Goals as goal

pub returns : goal.returns
unfolding count
returns c =
    let groups = c.self.inside.groups.now in
    let as_many = ap (λ (network : NetworkParts). length network.groups) c.self.view_is in
    let there = get_or_default groups c.args.group c.index-groups-group.result no_group (omega arith) in
    subst (λ (network : NetworkParts). (get_or groups c.args.group c.index-groups-group.result).count ≡ count network c.args.group) c.self.view_is
    (ap (λ (g : Group). g.count) there)
