-- A table of pins: HAProxy Configuration Manual 2.8, `stick-table` (`size`, `nopurge`). That a full table loses one pin alone,
-- and the version, are our own.
use Rattle.std.specs.Prelude.{◌≡◌, ◌≢◌, ◌↔◌, ℕ, ◌+◌, ◌≤◌, Bool, true, ◌&&◌, nat_le, List, length, drop, AllPairs, if◌then◌else◌}
use Rattle.lb_types.specs.declared.limits.TheConstants.{MAX_PINS}
use Rattle.pin_set.specs.declared.pin.PinId.{PinId}
use Rattle.pin_set.specs.declared.table_pin.TablePin.{TablePin}
use Rattle.pin_table.specs.declared.insert_fault.InsertFault.TheVariants.{TableFull}
use Rattle.pin_table.specs.declared.insert_fault.NotInserted.{NotInserted}

pub record TableParts : Type 0 where
  -- the pins in order of last use, the one that wasn't used for longest first
  pub pins : List TablePin
  -- how many pins it may have
  pub size : ℕ
  -- whether it keeps its pins where it is full
  pub no_purge : Bool
  -- how many uses there were: a pin is used when it is made, kept or moved
  pub uses : ℕ
  -- how often the backend's view has changed
  pub version : ℕ

abbrev pub table_of_parts : List TablePin → ℕ → Bool → ℕ → ℕ → TableParts
table_of_parts pins size no_purge uses version =
    record { pins = pins; size = size; no_purge = no_purge; uses = uses; version = version }

-- what every table keeps
pub record IsTable (table : TableParts) : Type 0 where
  pub distinct : AllPairs (λ a b. a.pin.id ≢ b.pin.id) table.pins
  pub few : length table.pins ≤ table.size
  pub size_from : 1 ≤ table.size
  pub size_to : table.size ≤ MAX_PINS

-- the table has as many pins as it may
abbrev pub is_full : TableParts → Bool
is_full table = nat_le table.size (length table.pins)

-- it is full, and lets no new pin in
abbrev pub is_closed : TableParts → Bool
is_closed table = is_full table && table.no_purge

-- what is told of a pin that wasn't made: its name, and that the table is full exactly where it lets no new pin in
pub record IsRefusal (table : TableParts) (name : PinId) (refusal : NotInserted) : Type 0 where
  pub name_is : refusal.name ≡ name
  pub full : (refusal.fault ≡ TableFull) ↔ (is_closed table ≡ true)

-- the pins that stay where one is added: all of them, or in a full table all but the one that wasn't used for the longest time
abbrev pub staying : TableParts → List TablePin
staying table = if is_full table then drop 1 table.pins else table.pins

-- the table with other pins
abbrev pub with_pins : TableParts → List TablePin → TableParts
with_pins table pins = record table { pins = pins }

-- the table with other pins, after a use
abbrev pub after_use : TableParts → List TablePin → TableParts
after_use table pins = record table { pins = pins; uses = table.uses + 1 }
