-- What is written of tables. Our own words.
use Rattle.std.specs.Prelude.{ℕ, List}
use Rattle.lb_config.specs.ConfigViews.{BackendView}
use Rattle.pin_file.specs.declared.backend_pins.BackendPins.{BackendPins}
use Rattle.pin_file_return.specs.Saves.{saved_pins}
use Rattle.pin_set.specs.declared.table_pin.TablePin.{TablePin}

-- the pins of a backend's table, in order of last use
pub record TableView : Type 0 where
  pub backend : BackendView
  pub pins : List TablePin

-- what a file of this moment says of the table
abbrev pub pins_at : ℕ → TableView → BackendPins
pins_at now table = saved_pins table.backend table.pins now
