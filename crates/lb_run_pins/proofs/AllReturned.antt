-- Pins that were set, as those that come back.
use Rattle.std.proofs.Common.{◌≡◌, ℕ, List, subst}
use Rattle.pin_set.specs.declared.table_pin.TablePin.{TablePin}
use Rattle.lb_config.specs.ConfigViews.{BackendView}
use Rattle.lb_desk_law.specs.SetPins.{AreSetsOf}
use Rattle.lb_desk_model.specs.declared.entry.Entry.{Entry}
use Rattle.lb_desk_model.specs.declared.event.SetPin.{SetPin}
use Rattle.pin_file.specs.declared.backend_pins.BackendPins.{BackendPins}
use Rattle.pin_file_return.specs.Puts.{WereSet, rows_of}
use Rattle.pin_file_return.specs.Returns.{returned_pins}
use Rattle.lb_run_pins.specs.Returning.{AreReturned}

pub all_returned : (backend : BackendView) (file : List BackendPins) (now : ℕ) (pins : List SetPin) (pinned : ℕ) (old new : List Entry)
    → rows_of pins ≡ returned_pins backend file now → WereSet pins pinned old new → AreReturned backend file now old new
all_returned backend file now pins pinned old new are w =
    (w.made, w.entries, subst (λ (rows : List TablePin). AreSetsOf rows w.made) are w.sets)
