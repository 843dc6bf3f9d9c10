-- The transportation problem of a sheet as a network: pins of a group may go to options, where option 0 is no server and
-- option s + 1 the server s. Every option costs each group something and has room for so many pins.
use Rattle.std.specs.Prelude.{ℕ, zero, suc, ◌+◌, ◌<◌, ◌≤◌, Bool, Option, Some, None, List, length, slice_index, slice_index_or, sum_by, All}
use Rattle.lb_types.specs.declared.limits.TheConstants.{MAX_COST, MAX_PINS}
use Rattle.lb_types_pins.specs.declared.kind.Group.{Group}
use Rattle.pin_set.specs.Costs.{option_cost}
use Rattle.pin_set.specs.Assignments.{may_go}
use Rattle.flow_planner_net.specs.declared.network.TheConstants.{MOST_OPTIONS, MOST_UNPLACED_COST}

-- the cost of a pin without a server, the groups, and how many pins each option has room for
pub record NetworkParts : Type 0 where
  pub unplaced_cost : ℕ
  pub groups : List Group
  pub capacities : List ℕ

-- what every network keeps: no server has room for all pins and more, and the numbers are those of a sheet
pub record IsNetwork (network : NetworkParts) : Type 0 where
  pub some : 0 < length network.capacities
  pub few_options : length network.capacities ≤ MOST_OPTIONS
  pub few_groups : length network.groups ≤ MAX_PINS
  pub few_pins : sum_by (λ g. g.count) network.groups ≤ MAX_PINS
  pub cheap : All (λ g. g.kind.cost ≤ MAX_COST) network.groups
  pub low : network.unplaced_cost ≤ MOST_UNPLACED_COST
  pub endless : MAX_PINS < slice_index network.capacities 0

-- how many options there are, and how many groups
abbrev pub options : NetworkParts → ℕ
options network = length network.capacities

abbrev pub size : NetworkParts → ℕ
size network = length network.groups

-- the place that an option stands for
abbrev pub place_of : ℕ → Option ℕ
place_of zero = None
place_of (suc server) = Some server

-- a group of no pins, read where there is no group
abbrev pub no_group : Group
no_group = record { kind = record { place = None; permitted = 0; cost = 0 }; count = 0 }

abbrev pub group_at : NetworkParts → ℕ → Group
group_at network group = slice_index_or network.groups group no_group

-- what a pin of the group costs at the option
unfoldable pub cost : NetworkParts → ℕ → ℕ → ℕ
cost network group option = option_cost network.unplaced_cost (group_at network group).kind (place_of option)

-- pins of the group may go to the option
unfoldable pub may : NetworkParts → ℕ → ℕ → Bool
may network group option = may_go (group_at network group).kind (place_of option)

-- how many pins the group has
unfoldable pub count : NetworkParts → ℕ → ℕ
count network group = (group_at network group).count

-- how many pins the option has room for
unfoldable pub capacity : NetworkParts → ℕ → ℕ
capacity network option = slice_index network.capacities option

-- no price goes beyond this: no pin's cost is more
abbrev pub limit : NetworkParts → ℕ
limit network = network.unplaced_cost + MAX_COST
