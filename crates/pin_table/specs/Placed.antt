-- Pins that go where moves send them. All of it is our own.
use Rattle.std.specs.Prelude.{◌≡◌, ℕ, Option, List, length, map, count_by}
use Rattle.std.specs.List.{zip}
use Rattle.lb_types_pins.specs.declared.kind.PinKind.{PinKind}
use Rattle.pin_set.specs.declared.pin.Pin.{Pin}
use Rattle.pin_set.specs.Rows.{is_move}
use Rattle.pin_set.specs.Views.{kind_of as kind_in}
use Rattle.pin_groups.specs.Counts.{pins_with}
use Rattle.pin_moves.specs.declared.a_move.Move.{Move}
use Rattle.pin_moves.specs.Moves.{pins_of, moved_with, moved_to, going}
use Rattle.pin_set.specs.declared.table_pin.TablePin.{TablePin}
use Rattle.lb_desk_model.specs.Installs.{moved_to as at_place}

-- the moves are of as many pins of each place, wanted servers and cost as there are
abbrev pub AreMovesOf : List TablePin → List Move → Type 0
AreMovesOf pins moves = (place : Option ℕ) (want cost : ℕ) → moved_with moves place want cost ≡ pins_with (map (λ p. p.pin) pins) place want cost

-- its place, wanted servers and cost, as moves have them
abbrev pub pins_in : Pin → PinKind
pins_in pin = pins_of pin.place pin.id.want pin.cost

-- Each pin is at the place that stands beside it, and otherwise as it was. Which of the pins of one place, wanted servers and cost
-- goes where is free.
pub record ArePlaced (moves : List Move) (old new : List TablePin) : Type 0 where
  pub places : List (Option ℕ)
  pub whole : length places ≡ length old
  pub new_is : new ≡ map (λ m. at_place m.0 m.1) (zip old places)
  -- of each place, wanted servers and cost as many pins go to each place as the moves say
  pub each : (place : Option ℕ) (want cost : ℕ) (to : Option ℕ)
      → count_by (is_move (pins_of place want cost) to) (zip (map pins_in (map (λ p. p.pin) old)) places)
      ≡ going moves place want cost to
  -- and of each kind, whichever servers are usable
  pub sent : (usable : ℕ) (kind : PinKind) (to : Option ℕ)
      → count_by (is_move kind to) (zip (map (kind_in usable) (map (λ p. p.pin) old)) places) ≡ moved_to usable moves kind to
