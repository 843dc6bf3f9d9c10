-- The search for the nearest option with room, by reduced costs: Dijkstra's, over options.
use Rattle.std.specs.Prelude.{◌≡◌, ◌≢◌, ℕ, ◌+◌, ◌-◌, ◌^◌, ◌<◌, ◌≤◌, min, true, Option, Some, List, slice_index_or}
use Rattle.pin_set.specs.Costs.{sum_to}
use Rattle.flow_planner_net.specs.Networks.{NetworkParts, options, size, may, capacity}
use Rattle.flow_planner_net.specs.States.{full}
use Rattle.flow_planner_repair.specs.declared.label.Label.{Label}

abbrev pub no_label : Label
no_label = record { dist = 0; source = 0; via = 0; rank = 0 }

unfoldable pub dist : List Label → ℕ → ℕ
dist labels option = (slice_index_or labels option no_label).dist

unfoldable pub source : List Label → ℕ → ℕ
source labels option = (slice_index_or labels option no_label).source

unfoldable pub via : List Label → ℕ → ℕ
via labels option = (slice_index_or labels option no_label).via

unfoldable pub rank : List Label → ℕ → ℕ
rank labels option = (slice_index_or labels option no_label).rank

-- farther than any way
abbrev pub far : ℕ
far = 2 ^ 62

-- the arc of the group doesn't shorten the way to its target
abbrev pub IsRelaxed : NetworkParts → (ℕ → ℕ → ℕ) → (ℕ → ℕ) → List Label → ℕ → Type 0
IsRelaxed network used price labels o =
    (g k : ℕ) → g < size network → k < options network → 0 < used o g → may network g k ≡ true
    → dist labels k + full network price g o ≤ dist labels o + full network price g k

-- an arc to the option from one that was settled before it; the option's distance is that one's and the arc's length
pub record IsArc (network : NetworkParts) (used : ℕ → ℕ → ℕ) (price : ℕ → ℕ) (labels : List Label) (o before group : ℕ) : Type 0 where
  pub source_in : before < options network
  pub via_in : group < size network
  pub earlier : rank labels before < rank labels o
  pub settled : rank labels before < options network
  pub carried : 0 < used before group
  pub allowed : may network group o ≡ true
  pub exact : dist labels o + full network price group before ≡ dist labels before + full network price group o

-- the option is reached over the arc of its label
abbrev pub IsReached : NetworkParts → (ℕ → ℕ → ℕ) → (ℕ → ℕ) → List Label → ℕ → Type 0
IsReached network used price labels o = IsArc network used price labels o (source labels o) (via labels o)

-- 1 for a settled option, and 0 for another one
abbrev pub mark : ℕ → List Label → ℕ → ℕ
mark n labels o = min 1 (n - rank labels o)

-- so many options are settled, nearest first, and all of them are full
pub record IsSearch (network : NetworkParts) (used : ℕ → ℕ → ℕ) (price load : ℕ → ℕ) (labels : List Label) (start settled : ℕ) : Type 0 where
  pub starts : dist labels start ≡ 0
  pub near : (o : ℕ) → o < options network → rank labels o < options network → dist labels o < far
  pub order : (o k : ℕ) → o < options network → k < options network → rank labels o < options network → options network ≤ rank labels k
      → dist labels o ≤ dist labels k
  pub reached : (o : ℕ) → o < options network → o ≢ start → dist labels o < far → IsReached network used price labels o
  pub relaxed : (o : ℕ) → o < options network → rank labels o < options network → IsRelaxed network used price labels o
  pub below : (o : ℕ) → o < options network → rank labels o < options network → rank labels o < settled
  pub ranks : (o : ℕ) → o < options network → rank labels o ≤ options network
  pub counted : sum_to (options network) (mark (options network) labels) ≡ settled
  pub busy : (o : ℕ) → o < options network → rank labels o < options network → capacity network o ≤ load o

-- of the options that aren't settled none is nearer
pub record IsNearest (network : NetworkParts) (labels : List Label) (o : ℕ) : Type 0 where
  pub there : o < options network
  pub open_yet : options network ≤ rank labels o
  pub least : (k : ℕ) → k < options network → options network ≤ rank labels k → dist labels o ≤ dist labels k

-- the nearest option with room is found
pub record IsFound (network : NetworkParts) (used : ℕ → ℕ → ℕ) (price load : ℕ → ℕ) (labels : List Label) (start found settled : ℕ) : Type 0 where
  pub search : IsSearch network used price load labels start settled
  pub nearest : IsNearest network labels found
  pub reach : dist labels found < far
  pub room : load found < capacity network found

-- the arc of the group isn't downhill
pub record IsUphill (network : NetworkParts) (price : ℕ → ℕ) (here target group : ℕ) : Type 0 where
  pub there : group < size network
  pub up : full network price group here ≤ full network price group target

-- one option's label, before and after the arcs from another option are followed
pub record IsFollowed (network : NetworkParts) (price : ℕ → ℕ) (arc : Option ℕ) (here : ℕ) (old new : List Label) (o : ℕ) : Type 0 where
  pub rank : rank new o ≡ rank old o
  pub lower : dist new o ≤ dist old o
  pub kept_source : dist new o ≡ dist old o → source new o ≡ source old o
  pub kept_via : dist new o ≡ dist old o → via new o ≡ via old o
  pub relaxed : (g : ℕ) → arc ≡ Some g → dist new o + full network price g here ≤ dist old here + full network price g o
  pub by_arc : dist new o < dist old o → arc ≡ Some (via new o)
  pub from_here : dist new o < dist old o → source new o ≡ here
  pub exact : dist new o < dist old o → dist new o + full network price (via new o) here ≡ dist old here + full network price (via new o) o

-- the same labels, but for the rank of one option
pub record IsRanked (old new : List Label) (here r : ℕ) : Type 0 where
  pub same_dist : (o : ℕ) → dist new o ≡ dist old o
  pub same_source : (o : ℕ) → source new o ≡ source old o
  pub same_via : (o : ℕ) → via new o ≡ via old o
  pub there : rank new here ≡ r
  pub others : (o : ℕ) → o ≢ here → rank new o ≡ rank old o
