-- How pins stand before any is pushed: each at an option of least cost.
use Rattle.std.specs.Prelude.{◌≡◌, ℕ, suc, ◌*◌, ◌<◌, ◌≤◌, nat_lt, ◌&&◌, true, Option, Some, None, is_some, List, length, if◌then◌else◌}
use Rattle.pin_set.specs.Costs.{sum_to}
use Rattle.flow_planner_net.specs.Networks.{NetworkParts, IsNetwork, options, size, cost, may, count, group_at}
use Rattle.flow_planner_net.specs.States.{AreLoads}

-- the group's pins may go to the option, and to none at less cost
pub record IsHome (network : NetworkParts) (group option : ℕ) : Type 0 where
  pub there : option < options network
  pub allowed : may network group option ≡ true
  pub least : (k : ℕ) → k < options network → may network group k ≡ true → cost network group option ≤ cost network group k

-- pins stand at options of least cost alone, no group has more of them placed than it has, and the loads are right
pub record IsFilling (network : NetworkParts) (used : ℕ → ℕ → ℕ) (load : ℕ → ℕ) : Type 0 where
  pub home : (o g : ℕ) → o < options network → g < size network → 0 < used o g → IsHome network g o
  pub loads : AreLoads network used load
  pub placed : (g : ℕ) → g < size network → sum_to (options network) (λ o. used o g) ≤ count network g

-- how many pins of the group have a place
abbrev pub placed_of : NetworkParts → (ℕ → ℕ → ℕ) → ℕ → ℕ
placed_of network used g = sum_to (options network) (λ o. used o g)

-- the lists have a place for each option and group
pub record IsRoomy (network : NetworkParts) (counts loads : List ℕ) : Type 0 where
  pub lawful : IsNetwork network
  pub table : length counts ≡ options network * size network
  pub loads_len : length loads ≡ options network

-- the option of this place, if pins of the group may go there
abbrev pub option_at : NetworkParts → ℕ → Option ℕ → Option ℕ
option_at network group None = None
option_at network group (Some server) =
    if nat_lt (suc server) (options network) && may network group (suc server) then Some (suc server) else None

-- the option that leaves the group's pins where they are, if they may stay there
abbrev pub own_option : NetworkParts → ℕ → Option ℕ
own_option network group = option_at network group (group_at network group).kind.place

-- how many of the group's pins can't stay where they are: all or none
abbrev pub waiting : NetworkParts → ℕ → ℕ
waiting network group = if is_some (own_option network group) then 0 else count network group
