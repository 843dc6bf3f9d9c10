use Rattle.std.proofs.Common.{◌≡◌, length, ap, subst, ◌∙◌, arith}
use Rattle.std.proofs.lemmas.List.{get_or_default}
use Rattle.lb_types_pins.specs.declared.kind.Group.{Group}
use Rattle.flow_planner_net.specs.Networks.{NetworkParts, no_group, may, place_of}
use Rattle.pin_set.specs.Assignments.{may_go}
use Rattle.flow_planner_net.proofs.network.Network.may.Goals as goal

pub returns : goal.returns
unfolding may
returns c =
    let groups = c.self.inside.groups.now in
    let as_many = ap (λ (network : NetworkParts). length network.groups) c.self.view_is in
    let there = get_or_default groups c.args.group c.index-groups-group.result no_group (omega arith) in
    subst (λ (network : NetworkParts). c.may_go.result ≡ may network c.args.group c.args.option) c.self.view_is
    (c.may_go.ensures ∙ ap (λ (g : Group). may_go g.kind (place_of c.args.option)) there)
