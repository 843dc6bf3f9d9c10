-- Where the pins of a network stand, and at which prices. `used` is a function of option and group, `price` and `load` are
-- functions of the option.
use Rattle.std.specs.Prelude.{◌≡◌, ℕ, ◌+◌, ◌*◌, ◌<◌, ◌≤◌, true, List, slice_index}
use Rattle.pin_set.specs.Costs.{sum_to}
use Rattle.flow_planner_net.specs.Networks.{NetworkParts, options, size, cost, may, count, capacity, limit}

-- what the option costs the group at the prices
unfoldable pub full : NetworkParts → (ℕ → ℕ) → ℕ → ℕ → ℕ
full network price group option = cost network group option + price option

-- the table's number for the option and the group, in a list of as many rows as options
unfoldable pub used_of : ℕ → List ℕ → ℕ → ℕ → ℕ
used_of width counts option group = slice_index counts (option * width + group)

-- the list's number for an option
unfoldable pub at : List ℕ → ℕ → ℕ
at numbers option = slice_index numbers option

-- pins are only where they may go, at an option that is the cheapest of all that they may go to
pub record IsCheapest (network : NetworkParts) (used : ℕ → ℕ → ℕ) (price : ℕ → ℕ) : Type 0 where
  pub allowed : (o g : ℕ) → o < options network → g < size network → 0 < used o g → may network g o ≡ true
  pub least : (o k g : ℕ) → o < options network → k < options network → g < size network → 0 < used o g → may network g k ≡ true
      → full network price g o ≤ full network price g k

-- an option with a price is full, and no price goes beyond the limit
pub record IsPriced (network : NetworkParts) (price load : ℕ → ℕ) : Type 0 where
  pub full : (o : ℕ) → o < options network → 0 < price o → capacity network o ≤ load o
  pub low : (o : ℕ) → o < options network → price o ≤ limit network

-- the load of an option is how many pins stand there
abbrev pub AreLoads : NetworkParts → (ℕ → ℕ → ℕ) → (ℕ → ℕ) → Type 0
AreLoads network used load = (o : ℕ) → o < options network → load o ≡ sum_to (size network) (used o)

-- every pin stands somewhere
abbrev pub AllPlaced : NetworkParts → (ℕ → ℕ → ℕ) → Type 0
AllPlaced network used = (g : ℕ) → g < size network → sum_to (options network) (λ o. used o g) ≡ count network g

-- all pins stand at options that are cheapest at the prices. Some options may have more pins than room
pub record IsState (network : NetworkParts) (used : ℕ → ℕ → ℕ) (price load : ℕ → ℕ) : Type 0 where
  pub cheapest : IsCheapest network used price
  pub priced : IsPriced network price load
  pub loads : AreLoads network used load
  pub placed : AllPlaced network used
