-- How large the numbers of a network are.
use Rattle.std.proofs.Common.{◌≡◌, get_or, ℕ, ◌+◌, ◌<◌, ◌≤◌, true, Option, Some, None, refl, arith}
use Rattle.std.proofs.lemmas.List.Elements.{All-get_or}
use Rattle.lb_types_pins.specs.declared.kind.PinKind.{PinKind}
use Rattle.lb_types_pins.specs.declared.kind.Group.{Group}
use Rattle.pin_set.specs.Costs.{sum_to, option_cost}
use Rattle.cert_check_law.proofs.Duality.{move_cost-le}
use Rattle.cert_check_law.proofs.Sums.{le-sum_to}
use Rattle.flow_planner_net.specs.Networks.{NetworkParts, IsNetwork, size, place_of, no_group, group_at, cost, may, count, capacity, limit}
use Rattle.flow_planner_net.proofs.Sums.{sum_to-list}

-- a group's pin may always go without a server
pub may-none : (network : NetworkParts) (g : ℕ) → may network g 0 ≡ true
unfolding may
may-none network g = refl

abbrev Cheap : Group → Type 0
Cheap g = g.kind.cost ≤ 1000

option_cost-le : (u : ℕ) (kind : PinKind) (place : Option ℕ) → option_cost u kind place ≤ u + kind.cost
option_cost-le u kind None = omega (arith, move_cost-le kind None)
option_cost-le u kind (Some s) = omega (arith, move_cost-le kind (Some s))

-- no option costs more than the limit
pub cost-le : (network : NetworkParts) → IsNetwork network → (g o : ℕ) → g < size network → cost network g o ≤ limit network
unfolding cost
cost-le network lawful g o within =
    let cheap = All-get_or Cheap network.groups g no_group within lawful.cheap in
    omega (arith, option_cost-le network.unplaced_cost (group_at network g).kind (place_of o))

-- all pins together
pub pins-le : (network : NetworkParts) → IsNetwork network → sum_to (size network) (count network) ≤ 16777216
unfolding count
pins-le network lawful = omega (arith, lawful.few_pins, sum_to-list (λ (g : Group). g.count) no_group network.groups)

pub count-le : (network : NetworkParts) → IsNetwork network → (g : ℕ) → g < size network → count network g ≤ 16777216
count-le network lawful g within = omega (arith, pins-le network lawful, le-sum_to (size network) (count network) g within)

pub capacity-first : (network : NetworkParts) → capacity network 0 ≡ get_or network.capacities 0 0
unfolding capacity
capacity-first network = refl
