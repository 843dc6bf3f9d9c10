-- Moves of pins that are counted by place, wanted servers and cost, as a plan says that pins of each kind move.
use Rattle.std.specs.Prelude.{◌≡◌, ℕ, ◌+◌, ◌≤◌, Bool, true, ◌&&◌, ◌||◌, ◌==◌, Option, List, All, AllPairs, sum_by, if◌then◌else◌}
use Rattle.lb_types_pins.specs.declared.kind.PinKind.{PinKind}
use Rattle.lb_types_pins.specs.Kinds.{same_place, same_kind, place_before, kind_before}
use Rattle.pin_set.specs.Pins.{permitted}
use Rattle.pin_set.specs.Rows.{is_move}
use Rattle.pin_set.specs.declared.pin_count.PinCount.{PinCount}
use Rattle.pin_moves.specs.declared.a_move.Move.{Move}

-- place, wanted servers and cost: a kind that has the wanted servers where a plan's kind has the permitted ones
abbrev pub pins_of : Option ℕ → ℕ → ℕ → PinKind
pins_of place want cost = record { place = place; permitted = want; cost = cost }

abbrev pub counted_pins : PinCount → PinKind
counted_pins c = pins_of c.place c.want c.cost

abbrev pub moved_pins : Move → PinKind
moved_pins m = pins_of m.place m.want m.cost

-- the kind that a plan gives the moved pins, where these servers are usable
abbrev pub moved_kind : ℕ → Move → PinKind
moved_kind usable m = record { place = m.place; permitted = permitted m.want usable; cost = m.cost }

-- by place, wanted servers and cost, then by where the pins go
abbrev pub move_before : Move → Move → Bool
move_before a b =
    kind_before (moved_pins a) (moved_pins b) || (same_kind (moved_pins a) (moved_pins b) && place_before a.to b.to)

-- how many pins of this place, these wanted servers and this cost the moves have
abbrev pub moved_with : List Move → Option ℕ → ℕ → ℕ → ℕ
moved_with moves place want cost =
    sum_by (λ m. if same_place place m.place && (want == m.want && cost == m.cost) then m.count else 0) moves

-- how many pins of this kind of the plan go to this place
abbrev pub moved_to : ℕ → List Move → PinKind → Option ℕ → ℕ
moved_to usable moves kind to = sum_by (λ m. if is_move kind to (moved_kind usable m, m.to) then m.count else 0) moves

-- each place, wanted servers and cost is counted once, in strictly rising order, and none is 0
pub record AreRisingCounts (counts : List PinCount) : Type 0 where
  pub rising : AllPairs (λ a b. kind_before (counted_pins a) (counted_pins b) ≡ true) counts
  pub counted : All (λ c. 1 ≤ c.count) counts

-- how many pins of this place, these wanted servers and this cost go to this place
abbrev pub going : List Move → Option ℕ → ℕ → ℕ → Option ℕ → ℕ
going moves place want cost to =
    sum_by (λ m. if is_move (pins_of place want cost) to (moved_pins m, m.to) then m.count else 0) moves

-- One pin of this place, these wanted servers and this cost was sent to this place: one fewer is left of these pins and one fewer
-- of them goes there, whichever servers are usable, and nothing else changes.
pub record IsHandedOut (place : Option ℕ) (want cost : ℕ) (to : Option ℕ) (old new : List Move) : Type 0 where
  pub left : (p : Option ℕ) (w c : ℕ)
      → moved_with new p w c + (if same_kind (pins_of p w c) (pins_of place want cost) then 1 else 0) ≡ moved_with old p w c
  pub going : (p : Option ℕ) (w c : ℕ) (q : Option ℕ)
      → going new p w c q + (if is_move (pins_of p w c) q (pins_of place want cost, to) then 1 else 0) ≡ going old p w c q
  pub sent : (usable : ℕ) (kind : PinKind) (q : Option ℕ)
      → moved_to usable new kind q + (if is_move kind q (pins_of place (permitted want usable) cost, to) then 1 else 0)
      ≡ moved_to usable old kind q

-- moves that have no pins left send none of any kind anywhere, whichever servers are usable
abbrev pub NothingIsLeft : Type 0
NothingIsLeft = (moves : List Move) → ((place : Option ℕ) (want cost : ℕ) → moved_with moves place want cost ≡ 0)
    → (usable : ℕ) (kind : PinKind) (to : Option ℕ) → moved_to usable moves kind to ≡ 0
