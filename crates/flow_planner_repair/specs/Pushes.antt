-- New prices after a search, and the push of pins along the way back to where it began.
use Rattle.std.specs.Prelude.{◌≡◌, ◌≢◌, ℕ, ◌+◌, ◌-◌, ◌<◌, ◌≤◌, min, true, List, if◌then◌else◌, nat_eq, nat_lt}
use Rattle.pin_set.specs.Costs.{sum_to}
use Rattle.flow_planner_net.specs.Networks.{NetworkParts, options, size, may, limit}
use Rattle.flow_planner_net.specs.States.{full}
use Rattle.flow_planner_repair.specs.declared.label.Label.{Label}
use Rattle.flow_planner_repair.specs.Searches.{dist, source, via, rank}

-- the price of an option, raised by as much as it is nearer than the option that was found, up to the limit
abbrev pub raised : ℕ → ℕ → ℕ → ℕ → ℕ
raised limit reach dist price = if nat_lt dist reach then min limit (price + (reach - dist)) else price

-- an arc of the way back to the option from the one before it
pub record IsTied (network : NetworkParts) (used : ℕ → ℕ → ℕ) (labels : List Label) (o before group : ℕ) : Type 0 where
  pub source_in : before < options network
  pub via_in : group < size network
  pub earlier : rank labels before < rank labels o
  pub nearer : dist labels before ≤ dist labels o
  pub carried : 0 < used before group
  pub allowed : may network group o ≡ true

-- from every option that is no farther, arcs lead back to the start
abbrev pub IsTrail : NetworkParts → (ℕ → ℕ → ℕ) → List Label → ℕ → ℕ → Type 0
IsTrail network used labels start reach =
    (o : ℕ) → o < options network → o ≢ start → dist labels o ≤ reach → IsTied network used labels o (source labels o) (via labels o)

-- these arcs cost nothing at the prices
abbrev pub IsTight : NetworkParts → (ℕ → ℕ) → List Label → ℕ → ℕ → Type 0
IsTight network price labels start reach =
    (o : ℕ) → o < options network → o ≢ start → dist labels o ≤ reach
    → full network price (via labels o) o ≤ full network price (via labels o) (source labels o)

-- so many pins, at one option alone
abbrev pub pins_at : ℕ → ℕ → ℕ → ℕ
pins_at here q o = if nat_eq o here then q else 0

-- so many pins have gone from the start to an option, over others
pub record IsPushed (network : NetworkParts) (old new : ℕ → ℕ → ℕ) (labels : List Label) (start o q : ℕ) : Type 0 where
  pub rows : (g : ℕ) → g < size network → sum_to (options network) (λ k. new k g) ≡ sum_to (options network) (λ k. old k g)
  pub columns : (k : ℕ) → k < options network → sum_to (size network) (new k) + pins_at start q k ≡ sum_to (size network) (old k) + pins_at o q k
  pub above : (k g : ℕ) → k < options network → g < size network → rank labels o < rank labels k → new k g ≡ old k g
  pub grown : (g : ℕ) → g < size network → old o g ≤ new o g
