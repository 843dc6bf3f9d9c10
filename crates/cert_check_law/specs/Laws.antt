-- The laws that make a yes of the check worth something: weak duality of the transportation problem for single pins, and
-- what carries it to groups and rows.
use Rattle.std.specs.Prelude.{◌≡◌, ℕ, ◌+◌, ◌*◌, ◌<◌, ◌≤◌, Option, List, length, All, sum_by}
use Rattle.std.specs.List.{zip}
use Rattle.lb_types_pins.specs.declared.kind.PinKind.{PinKind}
use Rattle.lb_types_pins.specs.declared.kind.Group.{Group}
use Rattle.lb_types_pins.specs.declared.kind.Row.{Row}
use Rattle.pin_set.specs.Costs.{held}
use Rattle.pin_set.specs.Assignments.{unplaced, spent, IsLawful, IsBest, unplaced_cost, total_cost, least_total, PermitsBelow, BoundHolds}
use Rattle.pin_set.specs.Rows.{AreGroupsOf, Agrees, rows_unplaced_cost, rows_cost, rows_least, RowPermitsBelow, IsShownBest, AgreeingAreBest}
use Rattle.pin_set.specs.Views.{ViewParts, IsView, kinds_of, capacities}

-- whatever the pins, the capacities, the prices and the cost of going without a server, no lawful assignment goes below
-- the bound of the prices
abbrev pub BoundsHold : Type 0
BoundsHold = (u : ℕ) (capacity price : ℕ → ℕ) (n : ℕ) (pins : List PinKind) → All (PermitsBelow n) pins → BoundHolds u capacity price n pins

-- the same of every view: the pins are the view's, the capacities those of its usable servers
abbrev pub ViewBoundsHold : Type 0
ViewBoundsHold = (view : ViewParts) (price : ℕ → ℕ) → IsView view
    → BoundHolds (unplaced_cost (kinds_of view)) (capacities view) price (length view.servers) (kinds_of view)

-- the options' costs are the unplaced pins' and the moves'
abbrev pub CostsSplit : Type 0
CostsSplit = (pins : List PinKind) (a : List (Option ℕ)) → length a ≡ length pins
    → total_cost (unplaced_cost pins) pins a ≡ unplaced a * unplaced_cost pins + spent pins a

-- all moves together cost less than one unplaced pin, so fewer unplaced pins outweigh every move
abbrev pub MovesCostLess : Type 0
MovesCostLess = (pins : List PinKind) (a : List (Option ℕ)) → spent pins a < unplaced_cost pins

-- a lawful assignment whose cost meets the bound of some prices is best
abbrev pub BestAtBound : Type 0
BestAtBound = (capacity price : ℕ → ℕ) (n : ℕ) (pins : List PinKind) (a : List (Option ℕ)) → All (PermitsBelow n) pins
    → IsLawful capacity pins a
    → total_cost (unplaced_cost pins) pins a + held n capacity price ≤ least_total (unplaced_cost pins) price n pins
    → IsBest capacity pins a

-- a sum over pins is a sum over their groups of count times value
abbrev pub SumsOverGroups : Type 0
SumsOverGroups = (groups : List Group) (pins : List PinKind) (f : PinKind → ℕ) → AreGroupsOf groups pins
    → sum_by f pins ≡ sum_by (λ g. g.count * f g.kind) groups

-- a sum over pins and the places that they go to is a sum over the rows that they agree with
abbrev pub SumsOverRows : Type 0
SumsOverRows = (rows : List Row) (pins : List PinKind) (a : List (Option ℕ)) (f : PinKind × Option ℕ → ℕ) → Agrees rows pins a
    → sum_by f (zip pins a) ≡ sum_by (λ r. r.count * f (r.kind, r.new_place)) rows

-- an assignment that agrees with rows costs what the rows cost
abbrev pub AgreeingCostTheSame : Type 0
AgreeingCostTheSame = (rows : List Row) (pins : List PinKind) (a : List (Option ℕ)) → Agrees rows pins a
    → total_cost (unplaced_cost pins) pins a ≡ rows_cost (rows_unplaced_cost rows) rows

-- at any prices, the least sums of cost and price of the pins of an assignment that agrees with rows are the rows'
abbrev pub AgreeingLeastTheSame : Type 0
AgreeingLeastTheSame = (price : ℕ → ℕ) (n : ℕ) (rows : List Row) (pins : List PinKind) (a : List (Option ℕ)) → Agrees rows pins a
    → least_total (unplaced_cost pins) price n pins ≡ rows_least (rows_unplaced_cost rows) price n rows

-- what agrees with rows that are shown best is best, and has the rows' score
abbrev pub ShownAreBest : Type 0
ShownAreBest = (capacity price : ℕ → ℕ) (n : ℕ) (rows : List Row) → All (RowPermitsBelow n) rows
    → IsShownBest capacity price n rows → AgreeingAreBest capacity rows
