-- How the planner's lists are before anything is placed.
use Rattle.std.specs.Prelude.{◌≡◌, ℕ, ◌*◌, List, length, replicate}
use Rattle.flow_planner_net.specs.Networks.{NetworkParts, IsNetwork, options, size}
use Rattle.flow_planner_repair.specs.declared.label.Label.{Label}
use Rattle.flow_planner_repair.specs.LeastArcs.{ArcsParts, no_arcs}

-- no pin is placed, no option has a price, and no arc is known
pub record IsBlank (network : NetworkParts) (counts prices loads : List ℕ) (arcs : ArcsParts) (labels : List Label) : Type 0 where
  pub lawful : IsNetwork network
  pub unplaced : counts ≡ replicate (options network * size network) 0
  pub unpriced : prices ≡ replicate (options network) 0
  pub idle : loads ≡ replicate (options network) 0
  pub unknown : arcs ≡ no_arcs (options network)
  pub labels_len : length labels ≡ options network
