-- Assignments of places to pins, and which of them are best.
--
-- A place is a server or none. An assignment is a list of places beside a list of pins: the i-th pin goes to the i-th
-- place. Of a pin only its kind is read here. `capacity` and `price` are functions of the server's number.
use Rattle.std.specs.Prelude.{◌≡◌, ℕ, ◌+◌, ◌<◌, ◌≤◌, Bool, true, false, ◌==◌, Option, Some, None, is_none, List, length, All, sum_by, count_by}
use Rattle.std.specs.List.{zip}
use Rattle.lb_types.specs.Servers.{has}
use Rattle.lb_types_pins.specs.declared.kind.PinKind.{PinKind}
use Rattle.pin_set.specs.Costs.{is_moved, move_cost, option_cost, least, held}

-- the place is this server
abbrev pub is_at : ℕ → Option ℕ → Bool
is_at server None = false
is_at server (Some s) = s == server

-- a pin of this kind may go there: to no server, or to one of its permitted ones
abbrev pub may_go : PinKind → Option ℕ → Bool
may_go kind None = true
may_go kind (Some server) = has kind.permitted server

-- how many pins the server gets
abbrev pub load : List (Option ℕ) → ℕ → ℕ
load a server = count_by (is_at server) a

-- how many pins get no server
abbrev pub unplaced : List (Option ℕ) → ℕ
unplaced a = count_by is_none a

-- how many pins change their place. One that had no server and gets none doesn't
abbrev pub moved : List PinKind → List (Option ℕ) → ℕ
moved pins a = count_by (λ m. is_moved m.0 m.1) (zip pins a)

-- what all the moves cost
abbrev pub spent : List PinKind → List (Option ℕ) → ℕ
spent pins a = sum_by (λ m. move_cost m.0 m.1) (zip pins a)

-- the pin goes to no server, or to one of its permitted ones
abbrev pub MayGo : PinKind × Option ℕ → Type 0
MayGo m = may_go m.0 m.1 ≡ true

-- each pin gets a place that it may have, and no server gets more pins than its capacity
pub record IsLawful (capacity : ℕ → ℕ) (pins : List PinKind) (a : List (Option ℕ)) : Type 0 where
  pub whole : length a ≡ length pins
  pub permitted : All MayGo (zip pins a)
  pub within : (server : ℕ) → load a server ≤ capacity server

-- it is lawful, and no lawful assignment leaves fewer pins without a server, or as many at less cost
pub record IsBest (capacity : ℕ → ℕ) (pins : List PinKind) (a : List (Option ℕ)) : Type 0 where
  pub lawful : IsLawful capacity pins a
  pub fewest : (b : List (Option ℕ)) → IsLawful capacity pins b → unplaced a ≤ unplaced b
  pub cheapest : (b : List (Option ℕ)) → IsLawful capacity pins b → unplaced b ≡ unplaced a → spent pins a ≤ spent pins b

-- what it costs to leave a pin without a server: more than to move all pins
abbrev pub unplaced_cost : List PinKind → ℕ
unplaced_cost pins = 1 + sum_by (λ kind. kind.cost) pins

-- the costs of all pins' options together, at `u` for each pin without a server
abbrev pub total_cost : ℕ → List PinKind → List (Option ℕ) → ℕ
total_cost u pins a = sum_by (λ m. option_cost u m.0 m.1) (zip pins a)

-- for each pin the least of cost and price over its options among the first n servers, and the sum of these
abbrev pub least_total : ℕ → (ℕ → ℕ) → ℕ → List PinKind → ℕ
least_total u price n pins = sum_by (least u price n) pins

-- the pin's permitted servers are among the first n
abbrev pub PermitsBelow : ℕ → PinKind → Type 0
PermitsBelow n kind = (server : ℕ) → has kind.permitted server ≡ true → server < n

-- Weak duality: at any prices no lawful assignment costs less than the pins' least sums, less what the servers' places
-- are worth. The latter stands on the other side, so that nothing is taken away
abbrev pub BoundHolds : ℕ → (ℕ → ℕ) → (ℕ → ℕ) → ℕ → List PinKind → Type 0
BoundHolds u capacity price n pins =
    (a : List (Option ℕ)) → IsLawful capacity pins a → least_total u price n pins ≤ total_cost u pins a + held n capacity price
