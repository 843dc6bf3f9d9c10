-- How pins are kept with their counts. No public clause cites this module.
use Rattle.std.specs.Prelude.{ℕ, ◌≤◌, List, [], ◌∷◌, length, map}
use Rattle.lb_types.specs.declared.limits.TheConstants.{MAX_PINS}
use Rattle.pin_set.specs.declared.pin.PinId.{PinId}
use Rattle.pin_set.specs.declared.table_pin.TablePin.{TablePin}
use Rattle.lb_desk_model.specs.Serves.{IsNew}
use Rattle.pin_table.specs.declared.held.Held.{Held}
use Rattle.pin_table.specs.declared.table_kind.TableKind.{TableKind}
use Rattle.pin_table.specs.Kinds.{AreCounts}
use Rattle.pin_table.specs.Pins.{held_pin}

-- pins in order of last use, and how many uses there were
pub record UsedPins : Type 0 where
  pub pins : List TablePin
  pub uses : ℕ

abbrev pub used_pins : List TablePin → ℕ → UsedPins
used_pins pins uses = record { pins = pins; uses = uses }

-- the pins of these names, of which these are held
abbrev pub listed : List (PinId × Held) → List TablePin
listed pairs = map (λ pair. held_pin pair.0 pair.1) pairs

-- no two pins have one name
abbrev pub AreApart : List TablePin → Type 0
AreApart [] = Unit {0}
AreApart (p ∷ pins) = IsNew p.pin.id pins × AreApart pins

-- the pins have names of their own, and the counts are theirs
pub record AreCounted (pins : List TablePin) (counts : List (TableKind × ℕ)) : Type 0 where
  pub apart : AreApart pins
  pub counted : AreCounts pins counts

-- there are at most so many pins, and there may be at least one
pub record IsSized (pins : List TablePin) (size : ℕ) : Type 0 where
  pub few : length pins ≤ size
  pub size_from : 1 ≤ size
  pub size_to : size ≤ MAX_PINS
