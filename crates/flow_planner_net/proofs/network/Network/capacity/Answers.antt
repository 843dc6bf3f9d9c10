use Rattle.std.proofs.Common.{◌≡◌, get_or, refl, subst}
use Rattle.flow_planner_net.specs.Networks.{NetworkParts, capacity}
use Rattle.flow_planner_net.proofs.network.Network.capacity.Goals as goal

pub returns : goal.returns
unfolding capacity
returns c =
    subst (λ (network : NetworkParts). get_or c.self.inside.capacities.now c.args.option 0 ≡ capacity network c.args.option) c.self.view_is refl
