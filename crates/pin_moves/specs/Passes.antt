-- A pass over pins, each of which is asked for once: the place that each is given, and the moves before and behind. All of it is our
-- own.
use Rattle.std.specs.Prelude.{◌≡◌, ℕ, ◌+◌, ◌≤◌, Option, List, [], ◌∷◌, ◌++◌, length, map, count_by}
use Rattle.std.specs.List.{zip}
use Rattle.std.specs.List.Sorted.{IsPermutation}
use Rattle.lb_types_pins.specs.declared.kind.PinKind.{PinKind}
use Rattle.lb_types_pins.specs.declared.kind.Row.{Row}
use Rattle.pin_set.specs.declared.pin.Pin.{Pin}
use Rattle.pin_set.specs.Rows.{Agrees, is_move, sent}
use Rattle.pin_set.specs.Views.{kind_of}
use Rattle.pin_groups.specs.Counts.{pins_with}
use Rattle.pin_moves.specs.declared.a_move.Move.{Move}
use Rattle.pin_moves.specs.Moves.{IsHandedOut, moved_to, moved_with}

-- the moves are of as many pins of each place, wanted servers and cost as the list has
abbrev pub AreMovesOf : List Pin → List Move → Type 0
AreMovesOf pins moves = (place : Option ℕ) (want cost : ℕ) → moved_with moves place want cost ≡ pins_with pins place want cost

-- the moves send as many pins of each kind to each place as the rows, where these servers are usable
abbrev pub SendAsRows : ℕ → List Row → List Move → Type 0
SendAsRows usable rows moves = (kind : PinKind) (to : Option ℕ) → moved_to usable moves kind to ≡ sent rows kind to

-- Each of these pins was given the place beside it, and the old moves have become the new ones: so many fewer are left of the
-- pins, and so many fewer of each kind go to each place, whichever servers are usable. The order of the pins plays no part.
pub record AreGiven (given : List (Pin × Option ℕ)) (old new : List Move) : Type 0 where
  pub left : (place : Option ℕ) (want cost : ℕ)
      → moved_with new place want cost + pins_with (map (λ m. m.0) given) place want cost ≡ moved_with old place want cost
  pub sent : (usable : ℕ) (kind : PinKind) (to : Option ℕ)
      → moved_to usable new kind to + count_by (λ m. is_move kind to (kind_of usable m.0, m.1)) given ≡ moved_to usable old kind to

-- ---- how a pass begins and goes on

-- before the first pin is asked for, the moves are the old ones
abbrev pub NoneIsGiven : Type 0
NoneIsGiven = (moves : List Move) → AreGiven [] moves moves

-- a pin that was asked for was given the place that was handed out
abbrev pub OneIsGiven : Type 0
OneIsGiven = (pin : Pin) (to : Option ℕ) (old new : List Move)
    → IsHandedOut pin.place pin.id.want pin.cost to old new → AreGiven ((pin, to) ∷ []) old new

-- a pass goes on where another has ended
abbrev pub PassesJoin : Type 0
PassesJoin = (early late : List (Pin × Option ℕ)) (old between new : List Move)
    → AreGiven early old between → AreGiven late between new → AreGiven (early ++ late) old new

-- ---- there is always one left

-- the order of the pins plays no part
abbrev pub OrderIsFree : Type 0
OrderIsFree = (pins others : List Pin) (moves : List Move) → IsPermutation pins others → AreMovesOf pins moves → AreMovesOf others moves

-- what is left once some were given their places are moves of the others
abbrev pub OthersAreLeft : Type 0
OthersAreLeft = (given : List (Pin × Option ℕ)) (to_come : List Pin) (old new : List Move)
    → AreMovesOf (map (λ m. m.0) given ++ to_come) old → AreGiven given old new → AreMovesOf to_come new

-- the next pin may be asked for
abbrev pub NextIsLeft : Type 0
NextIsLeft = (pin : Pin) (to_come : List Pin) (moves : List Move) → AreMovesOf (pin ∷ to_come) moves
    → 1 ≤ moved_with moves pin.place pin.id.want pin.cost

-- ---- how it ends

-- Where each pin was asked for once, in any order, the i-th pin and the place that it was given agree with the rows, and none is
-- left.
abbrev pub WholePassesAgree : Type 0
WholePassesAgree = (usable : ℕ) (rows : List Row) (pins : List Pin) (places : List (Option ℕ)) (given : List (Pin × Option ℕ))
    (old new : List Move)
    → AreMovesOf pins old → SendAsRows usable rows old → AreGiven given old new
    → length places ≡ length pins → IsPermutation given (zip pins places)
    → Agrees rows (map (kind_of usable) pins) places × AreMovesOf [] new
