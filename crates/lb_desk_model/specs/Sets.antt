-- What setting a pin does, and clearing one: HAProxy Management Guide 2.8, section 9.3 (`set table`, `clear table`), and Configuration
-- Manual 2.8, `stick store-response`. That a server has to exist, that a full table loses one pin alone, and what is done where a full
-- table keeps its pins, are our own. Whether the server serves, is usable or has room plays no part.
use Rattle.std.specs.Prelude.{◌≡◌, ◌≢◌, ℕ, ◌<◌, true, false, ◌&&◌, Some, List, [], ◌∷◌, ◌++◌, length, All}
use Rattle.lb_types.specs.Servers.{members}
use Rattle.pin_set.specs.declared.pin.PinId.{PinId}
use Rattle.pin_set.specs.declared.table_pin.TablePin.{TablePin}
use Rattle.lb_desk_model.specs.declared.event.SetPin.{SetPin}
use Rattle.lb_desk_model.specs.declared.reply.PinnedAs.{PinnedAs}
use Rattle.lb_desk_model.specs.declared.reply.PinnedAs.TheVariants.{Kept, Moved, Made}
use Rattle.lb_desk_model.specs.Serves.{StandsBetween, IsNew, is_full, keeps_pins, moment_of, staying, used_at}
use Rattle.lb_desk_model.specs.States.{State}

-- the server exists, and so does every server that the pin's name wants
pub record AreThere (state : State) (set : SetPin) : Type 0 where
  pub server : set.server < length state.servers
  pub wanted : All (λ server. server < length state.servers) (members set.name.want)

-- ---- a pin that is set

-- the pin that is made, used at this moment
abbrev pub set_pin : SetPin → ℕ → TablePin
set_pin set now = record { pin = record { id = set.name; place = Some set.server; cost = set.cost }; last_use = now }

-- the state where these pins stand in the table now
abbrev pub after_set : State → SetPin → List TablePin → State
after_set old set pins = record old { pins = pins; latest = moment_of old set.moment }

-- the pins where the found one was put last, at the server
abbrev pub put_last : State → SetPin → List TablePin → TablePin → List TablePin → List TablePin
put_last old set before found after = before ++ after ++ used_at found set.server (moment_of old set.moment) ∷ []

-- the pin stands at the server, in this way
abbrev pub Sets : State → SetPin → PinnedAs → State → Type 0
-- it was there, and is used
Sets old set Kept new = (before : List TablePin) × (found : TablePin) × (after : List TablePin)
    × StandsBetween set.name old.pins before found after
    × (found.pin.place ≡ Some set.server)
    × (new ≡ after_set old set (put_last old set before found after))
-- it comes from elsewhere, and is used
Sets old set Moved new = (before : List TablePin) × (found : TablePin) × (after : List TablePin)
    × StandsBetween set.name old.pins before found after
    × (found.pin.place ≢ Some set.server)
    × (new ≡ after_set old set (put_last old set before found after))
-- it is made; a full table loses a pin
Sets old set Made new = IsNew set.name old.pins
    × ((is_full old && keeps_pins old) ≡ false)
    × (new ≡ after_set old set (staying old ++ set_pin set (moment_of old set.moment) ∷ []))

-- no pin has the name, and none is made: the table is full, and keeps its pins
abbrev pub HasNoRoom : State → SetPin → Type 0
HasNoRoom old set = IsNew set.name old.pins × ((is_full old && keeps_pins old) ≡ true)

-- ---- a pin that is cleared

-- the pin goes, and the others stand as they stood
pub record Clears (old : State) (name : PinId) (new : State) : Type 0 where
  pub before : List TablePin
  pub found : TablePin
  pub after : List TablePin
  pub stands : StandsBetween name old.pins before found after
  pub new_is : new ≡ record old { pins = before ++ after }
