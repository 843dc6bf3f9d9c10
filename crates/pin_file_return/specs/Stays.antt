-- A pin as it is kept under its name. No public clause cites this module.
use Rattle.std.specs.Prelude.{Some, List, map, reverse}
use Rattle.pin_set.specs.declared.pin.PinId.{PinId}
use Rattle.pin_set.specs.declared.table_pin.TablePin.{TablePin}
use Rattle.pin_file_return.specs.declared.stay.Stay.{Stay}

abbrev pub pin_of : PinId × Stay → TablePin
pin_of entry = record { pin = record { id = entry.0; place = Some entry.1.server; cost = entry.1.cost }; last_use = entry.1.moment }

-- the pins as they stand in the table: the last entry's was used first
abbrev pub pins_in : List (PinId × Stay) → List TablePin
pins_in entries = reverse (map pin_of entries)
