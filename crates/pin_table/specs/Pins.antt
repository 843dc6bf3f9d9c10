-- Pins in order of last use: HAProxy Configuration Manual 2.8, `stick-table` and `stick on`. That a pin's name has the wanted
-- servers beside the key is our own.
use Rattle.std.specs.Prelude.{◌≡◌, ℕ, Option, Some, List, [], ◌∷◌, ◌++◌}
use Rattle.pin_set.specs.declared.pin.PinId.{PinId}
use Rattle.pin_set.specs.declared.table_pin.TablePin.{TablePin}
use Rattle.lb_desk_model.specs.Serves.{StandsBetween}
use Rattle.pin_table.specs.declared.held.Held.{Held}

-- the pin of this name, of which this is held
abbrev pub held_pin : PinId → Held → TablePin
held_pin name held = record { pin = record { id = name; place = held.place; cost = held.cost }; last_use = held.last_use }

-- the pin of this name stands among the pins, and this is held of it
abbrev pub Stands : PinId → Held → List TablePin → Type 0
Stands name held pins = (before : List TablePin) × (after : List TablePin) × StandsBetween name pins before (held_pin name held) after

-- the pin at this place, used at this moment
abbrev pub used_in : TablePin → Option ℕ → ℕ → TablePin
used_in found place now = record { pin = record found.pin { place = place }; last_use = now }

-- the pin of this name was used at this place and this moment: it stands last now, and the others stand as they stood
abbrev pub IsUsed : PinId → Option ℕ → ℕ → List TablePin → List TablePin → Type 0
IsUsed name place now old new = (before : List TablePin) (found : TablePin) (after : List TablePin)
    → StandsBetween name old before found after → new ≡ before ++ after ++ used_in found place now ∷ []

-- the pin of this name, of which this was held, is gone, and the others stand as they stood
abbrev pub IsTakenOut : PinId → Held → List TablePin → List TablePin → Type 0
IsTakenOut name held old new = (before : List TablePin) × (after : List TablePin)
    × StandsBetween name old before (held_pin name held) after × (new ≡ before ++ after)

-- a new pin at the server, used at this moment
abbrev pub made_pin : PinId → ℕ → ℕ → ℕ → TablePin
made_pin name server cost now = record { pin = record { id = name; place = Some server; cost = cost }; last_use = now }
