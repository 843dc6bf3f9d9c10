use Rattle.std.proofs.Common.{◌≡◌, length, ap, subst, ◌∙◌, arith}
use Rattle.std.proofs.lemmas.List.{get_or_default}
use Rattle.lb_types_pins.specs.declared.kind.Group.{Group}
use Rattle.flow_planner_net.specs.Networks.{NetworkParts, no_group, cost, place_of}
use Rattle.pin_set.specs.Costs.{option_cost}
use Rattle.flow_planner_net.proofs.network.Network.cost.Goals as goal

pub returns-clause-exact : goal.returns-clause-exact
unfolding cost
returns-clause-exact c =
    let groups = c.self.inside.groups.now in
    let as_many = ap (λ (network : NetworkParts). length network.groups) c.self.view_is in
    let there = get_or_default groups c.args.group c.index-groups-group.result no_group (omega arith) in
    subst (λ (network : NetworkParts). c.option_cost.result ≡ cost network c.args.group c.args.option) c.self.view_is
    (c.option_cost.ensures ∙ ap (λ (g : Group). option_cost c.self.inside.unplaced_cost g.kind (place_of c.args.option)) there)
