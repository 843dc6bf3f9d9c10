-- What a state says of costs and loads.
use Rattle.std.proofs.Common.{◌≡◌, ℕ, ◌+◌, ◌<◌, ◌≤◌, refl, arith}
use Rattle.pin_set.specs.Costs.{sum_to}
use Rattle.cert_check_law.proofs.Sums.{sum_to-same, le-sum_to}
use Rattle.flow_planner_net.specs.Networks.{NetworkParts, IsNetwork, options, size, cost, count}
use Rattle.flow_planner_net.specs.States.{full, IsState}
use Rattle.flow_planner_net.proofs.Sums.{sum_to-exchange}
use Rattle.flow_planner_net.proofs.Numbers.{pins-le}

pub full-is : (network : NetworkParts) (price : ℕ → ℕ) (g o : ℕ) → full network price g o ≡ cost network g o + price o
unfolding full
full-is network price g o = refl

module _ (network : NetworkParts) (lawful : IsNetwork network) (used : ℕ → ℕ → ℕ) (price load : ℕ → ℕ) (state : IsState network used price load) where
  -- the loads together are all pins
  pub loads-le : sum_to (options network) load ≤ 16777216
  loads-le =
      let by_option = sum_to-same (options network) load (λ o. sum_to (size network) (used o)) state.loads in
      let by_group = sum_to-same (size network) (λ g. sum_to (options network) (λ o. used o g)) (count network) state.placed in
      omega (arith, by_option, by_group, sum_to-exchange (options network) (size network) used, pins-le network lawful)

  pub load-le : (o : ℕ) → o < options network → load o ≤ 16777216
  load-le o within = omega (arith, loads-le, le-sum_to (options network) load o within)
