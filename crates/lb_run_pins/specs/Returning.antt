-- What is done at a desk where pins come back to it. Our own words.
use Rattle.std.specs.Prelude.{◌≡◌, ℕ, List, ◌++◌}
use Rattle.lb_config.specs.ConfigViews.{BackendView}
use Rattle.lb_desk_law.specs.SetPins.{AreSetsOf}
use Rattle.lb_desk_model.specs.declared.entry.Entry.{Entry}
use Rattle.pin_file.specs.declared.backend_pins.BackendPins.{BackendPins}
use Rattle.pin_file_return.specs.Returns.{returned_pins}

-- each pin of the file that comes back to the backend at this moment was set, in their order, and nothing else was done
abbrev pub AreReturned : BackendView → List BackendPins → ℕ → List Entry → List Entry → Type 0
AreReturned backend file now old new =
    (made : List Entry) × (new ≡ old ++ made) × AreSetsOf (returned_pins backend file now) made
