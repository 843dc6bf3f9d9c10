-- Why a repaired state is a best plan: complementary slackness of the transportation problem and its dual.
use Rattle.std.specs.Prelude.{◌≡◌, ℕ, suc, ◌+◌, ◌*◌, ◌<◌, ◌≤◌}
use Rattle.pin_set.specs.Costs.{sum_to, least, held}
use Rattle.flow_planner_net.specs.Networks.{NetworkParts, IsNetwork, options, size, cost, count, capacity, group_at}
use Rattle.flow_planner_net.specs.States.{IsState}

-- what all pins cost where they stand
abbrev pub cost_of : NetworkParts → (ℕ → ℕ → ℕ) → ℕ
cost_of network used = sum_to (size network) (λ g. sum_to (options network) (λ o. used o g * cost network g o))

-- the least of cost and price over the options of each pin, for all pins together
abbrev pub least_of : NetworkParts → (ℕ → ℕ) → ℕ → ℕ
least_of network price n = sum_to (size network) (λ g. count network g * least network.unplaced_cost price n (group_at network g).kind)

-- A state in which no option has more pins than room costs what the bound of its prices is. Server s is option s + 1
abbrev pub StatesAreShown : Type 0
StatesAreShown = (network : NetworkParts) (n : ℕ) (used : ℕ → ℕ → ℕ) (price load : ℕ → ℕ) → IsNetwork network → options network ≡ suc n
    → IsState network used price load → ((o : ℕ) → o < options network → load o ≤ capacity network o)
    → cost_of network used + held n (λ s. capacity network (suc s)) (λ s. price (suc s)) ≡ least_of network (λ s. price (suc s)) n
