-- The repair of a placing that leaves some options with more pins than room.
use Rattle.std.specs.Prelude.{◌≡◌, ℕ, ◌+◌, ◌-◌, ◌*◌, List, length}
use Rattle.pin_set.specs.Costs.{sum_to}
use Rattle.flow_planner_net.specs.Networks.{NetworkParts, IsNetwork, options, size, capacity}
use Rattle.flow_planner_net.specs.States.{used_of}
use Rattle.flow_planner_repair.specs.declared.label.Label.{Label}
use Rattle.flow_planner_repair.specs.LeastArcs.{ArcsParts, AreArcs, AreKept}

-- the lists have a place for each option, or each option and group, and the arcs that are said to be right are
pub record IsLaid (network : NetworkParts) (counts prices loads : List ℕ) (arcs : ArcsParts) (labels : List Label) : Type 0 where
  pub lawful : IsNetwork network
  pub table : length counts ≡ options network * size network
  pub prices_len : length prices ≡ options network
  pub loads_len : length loads ≡ options network
  pub labels_len : length labels ≡ options network
  pub arcs_len : AreArcs network arcs
  pub kept : AreKept network (used_of (size network) counts) arcs

-- how many pins stand beyond the options' room
unfoldable pub excess : NetworkParts → (ℕ → ℕ) → ℕ
excess network load = sum_to (options network) (λ o. load o - capacity network o)

-- the looks of one search at most: each group's at each option, for each option that is settled
abbrev pub search_looks : NetworkParts → ℕ
search_looks network = options network * (size network * options network)

-- the looks of one push at most: those of its search, and those of one group at each option, for each option on the way
abbrev pub most_looks : NetworkParts → ℕ
most_looks network = options network * ((size network + 1) * options network)
