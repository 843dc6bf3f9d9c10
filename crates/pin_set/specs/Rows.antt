-- Pins told apart by their kind alone: groups of pins, rows that send pins of one kind to one place, and sums over them.
use Rattle.std.specs.Prelude.{◌≡◌, ℕ, ◌+◌, ◌*◌, ◌≤◌, Bool, true, ◌&&◌, is_none, Option, List, length, All, sum_by, count_by, if◌then◌else◌}
use Rattle.std.specs.List.{zip}
use Rattle.lb_types_pins.specs.declared.kind.PinKind.{PinKind}
use Rattle.lb_types_pins.specs.declared.kind.Group.{Group}
use Rattle.lb_types_pins.specs.declared.kind.Row.{Row}
use Rattle.lb_types_pins.specs.Kinds.{same_kind, same_place}
use Rattle.pin_set.specs.declared.totals.Score.{Score}
use Rattle.pin_set.specs.Costs.{is_moved, move_cost, option_cost, least, held}
use Rattle.pin_set.specs.Assignments.{is_at, may_go, unplaced, moved, spent, IsBest, PermitsBelow}

-- the score of an assignment
abbrev pub score_of : List PinKind → List (Option ℕ) → Score
score_of pins a = record { pins = length pins; unplaced = unplaced a; moved = moved pins a; cost = spent pins a }

-- how many pins of this kind the groups have
abbrev pub count_in : List Group → PinKind → ℕ
count_in groups kind = sum_by (λ g. if same_kind kind g.kind then g.count else 0) groups

-- the groups have as many pins of each kind as the list
abbrev pub AreGroupsOf : List Group → List PinKind → Type 0
AreGroupsOf groups pins = (kind : PinKind) → count_by (same_kind kind) pins ≡ count_in groups kind

-- a pin of this kind goes to this place
abbrev pub is_move : PinKind → Option ℕ → PinKind × Option ℕ → Bool
is_move kind to m = same_kind kind m.0 && same_place to m.1

-- how many pins of this kind the rows send to this place
abbrev pub sent : List Row → PinKind → Option ℕ → ℕ
sent rows kind to = sum_by (λ r. if is_move kind to (r.kind, r.new_place) then r.count else 0) rows

-- of each kind as many pins go to each place as the rows say. Which of them is free
pub record Agrees (rows : List Row) (pins : List PinKind) (a : List (Option ℕ)) : Type 0 where
  pub whole : length a ≡ length pins
  pub counts : (kind : PinKind) (to : Option ℕ) → count_by (is_move kind to) (zip pins a) ≡ sent rows kind to

-- how many pins the rows have
abbrev pub rows_pins : List Row → ℕ
rows_pins rows = sum_by (λ r. r.count) rows

-- how many pins the rows send to the server
abbrev pub rows_load : List Row → ℕ → ℕ
rows_load rows server = sum_by (λ r. if is_at server r.new_place then r.count else 0) rows

-- how many pins the rows send to no server
abbrev pub rows_unplaced : List Row → ℕ
rows_unplaced rows = sum_by (λ r. if is_none r.new_place then r.count else 0) rows

-- how many pins the rows send to another place than their own
abbrev pub rows_moved : List Row → ℕ
rows_moved rows = sum_by (λ r. if is_moved r.kind r.new_place then r.count else 0) rows

-- what the moves of all the rows' pins cost together
abbrev pub rows_spent : List Row → ℕ
rows_spent rows = sum_by (λ r. r.count * move_cost r.kind r.new_place) rows

-- the score of the rows
abbrev pub rows_score : List Row → Score
rows_score rows =
    record { pins = rows_pins rows; unplaced = rows_unplaced rows; moved = rows_moved rows; cost = rows_spent rows }

-- what it costs to leave a pin of the rows without a server: more than to move all pins
abbrev pub rows_unplaced_cost : List Row → ℕ
rows_unplaced_cost rows = 1 + sum_by (λ r. r.count * r.kind.cost) rows

-- the costs of all the rows' options together, at `u` for each pin without a server
abbrev pub rows_cost : ℕ → List Row → ℕ
rows_cost u rows = sum_by (λ r. r.count * option_cost u r.kind r.new_place) rows

-- the least sums of cost and price of all the rows' pins together
abbrev pub rows_least : ℕ → (ℕ → ℕ) → ℕ → List Row → ℕ
rows_least u price n rows = sum_by (λ r. r.count * least u price n r.kind) rows

-- a pin of the row may go where the row sends it
abbrev pub RowMayGo : Row → Type 0
RowMayGo r = may_go r.kind r.new_place ≡ true

-- the row's permitted servers are among the first n
abbrev pub RowPermitsBelow : ℕ → Row → Type 0
RowPermitsBelow n r = PermitsBelow n r.kind

-- the rows keep to what is permitted and to the capacities, and their cost is what the prices show to be the least
pub record IsShownBest (capacity price : ℕ → ℕ) (n : ℕ) (rows : List Row) : Type 0 where
  pub permitted : All RowMayGo rows
  pub within : (server : ℕ) → rows_load rows server ≤ capacity server
  pub shown : rows_cost (rows_unplaced_cost rows) rows + held n capacity price ≡ rows_least (rows_unplaced_cost rows) price n rows

-- every assignment that agrees with the rows, of whatever pins, is best and has the rows' score
pub record AgreeingAreBest (capacity : ℕ → ℕ) (rows : List Row) : Type 0 where
  pub best : (pins : List PinKind) (a : List (Option ℕ)) → Agrees rows pins a → IsBest capacity pins a
  pub score : (pins : List PinKind) (a : List (Option ℕ)) → Agrees rows pins a → score_of pins a ≡ rows_score rows
