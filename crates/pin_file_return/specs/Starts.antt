-- What a table shows after the pins of a file have come back to it.
use Rattle.std.specs.Prelude.{◌≡◌, ℕ, List}
use Rattle.lb_config.specs.ConfigViews.{BackendView}
use Rattle.lb_desk_backend.specs.Configured.{IsBackendOf}
use Rattle.lb_desk_law.specs.SetPins.{AreSetsOf}
use Rattle.lb_desk_model.specs.declared.entry.Entry.{Entry}
use Rattle.lb_desk_model.specs.Backends.{BackendParts}
use Rattle.lb_desk_model.specs.Histories.{History}
use Rattle.lb_desk_model.specs.States.{State, opening}
use Rattle.pin_file.specs.declared.backend_pins.BackendPins.{BackendPins}
use Rattle.pin_file.specs.Files.{IsPinFile}
use Rattle.pin_file_return.specs.Returns.{returned_pins}

-- set in their order from the backend's opening on, the pins that come back are the table
abbrev pub ReturnedPinsAreTheTable : Type 0
ReturnedPinsAreTheTable =
    (config : BackendView) (backend : BackendParts) (file : List BackendPins) (now : ℕ) (entries : List Entry) (new : State)
    → IsBackendOf config backend → IsPinFile file
    → AreSetsOf (returned_pins config file now) entries → History (opening backend) entries new
    → new.pins ≡ returned_pins config file now
