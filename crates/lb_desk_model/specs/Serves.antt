-- How a request gets its server: HAProxy Configuration Manual 2.8, `stick-table`, `stick on` and `use-server`. That a
-- pin's name has the wanted servers beside the key, how far capacities count, and that a full table loses one pin alone
-- are our own.
use Rattle.std.specs.Prelude.{◌≡◌, ◌≢◌, ◌⊎◌, ℕ, ◌<◌, Bool, true, false, ◌&&◌, ◌==◌, nat_lt, nat_le, max, Option, Some, None, List, [], ◌∷◌, ◌++◌, length, drop, All, count_by, slice_get, if◌then◌else◌}
use Rattle.std.specs.List.{find}
use Rattle.std.specs.Option.{option_map, option_map_or, option_and_then}
use Rattle.lb_types.specs.Servers.{has, meet}
use Rattle.pin_set.specs.declared.pin.PinId.{PinId}
use Rattle.pin_set.specs.declared.pin_key.PinKey.{PinKey}
use Rattle.pin_set.specs.Pins.{permitted, honoured}
use Rattle.pin_set.specs.Assignments.{is_at}
use Rattle.server_state.specs.Farm.{set_of}
use Rattle.lb_desk_model.specs.declared.event.Request.{Request}
use Rattle.lb_desk_model.specs.declared.reply.ServedAs.{ServedAs}
use Rattle.lb_desk_model.specs.declared.reply.ServedAs.TheVariants.{Kept, Moved, Made, Loose}
use Rattle.lb_desk_model.specs.declared.stand.Stand.{Stand}
use Rattle.pin_set.specs.declared.table_pin.TablePin.{TablePin}
use Rattle.lb_desk_model.specs.States.{ServerState, State, usable, serving}
use Rattle.lb_desk_model.specs.Picks.{Picked, picked, balanced}

-- ---- the request

-- every server that the rules name exists
abbrev pub AreServers : State → List ℕ → Type 0
AreServers state rules = All (λ server. server < length state.servers) rules

-- the servers that the rules name, as a set
abbrev pub want_of : Request → ℕ
want_of request = set_of request.rules

-- a moment before the latest one counts as the latest
abbrev pub moment_of : State → ℕ → ℕ
moment_of state now = max state.latest now

abbrev pub pin_name : PinKey → ℕ → PinId
pin_name key want = record { key = key; want = want }

-- the name of the request's pin: there is none without a key, or without a table
abbrev pub name_of : State → Request → Option PinId
name_of state request =
    option_and_then (λ table. option_map (λ key. pin_name key (want_of request)) request.key) state.table

-- ---- the table

-- the pin of this name stands between these two parts of the list
pub record StandsBetween (name : PinId) (pins before : List TablePin) (found : TablePin) (after : List TablePin) : Type 0 where
  pub is : pins ≡ before ++ found ∷ after
  pub named : found.pin.id ≡ name

-- no pin has this name
abbrev pub IsNew : PinId → List TablePin → Type 0
IsNew name pins = All (λ p. p.pin.id ≢ name) pins

-- the table has as many pins as it may
abbrev pub is_full : State → Bool
is_full state = option_map_or (λ table. nat_le table.size (length state.pins)) state.table true

-- a full table keeps its pins
abbrev pub keeps_pins : State → Bool
keeps_pins state = option_map_or (λ table. table.no_purge) state.table true

-- the pins that stay where one is added: all of them, or in a full table all but the one that wasn't used for the longest time
abbrev pub staying : State → List TablePin
staying state = if is_full state then drop 1 state.pins else state.pins

-- the pin at this place, used at this moment
abbrev pub used_at : TablePin → ℕ → ℕ → TablePin
used_at found server now = record { pin = record found.pin { place = Some server }; last_use = now }

abbrev pub new_pin : PinId → Request → ℕ → ℕ → TablePin
new_pin name request server now =
    record { pin = record { id = name; place = Some server; cost = request.cost }; last_use = now }

-- ---- the pick

-- the servers that the request may go to
abbrev pub permitted_to : State → Request → ℕ
permitted_to state request = permitted (want_of request) (usable state)

-- how many of the pins are at the server
abbrev pub load : List TablePin → ℕ → ℕ
load pins server = count_by (λ p. is_at server p.pin.place) pins

abbrev pub capacity_at : List ServerState → ℕ → ℕ
capacity_at servers server = option_map_or (λ s. s.capacity) (slice_get servers server) 0

-- a server may be taken for a pin, where these are the others: it is permitted, and holds fewer of them than its capacity
abbrev pub may_hold : State → Request → List TablePin → ℕ → Bool
may_hold state request pins server =
    has (permitted_to state request) server && nat_lt (load pins server) (capacity_at state.servers server)

-- a server may be taken for a request without a pin
abbrev pub may_take : State → Request → ℕ → Bool
may_take state request server = has (permitted_to state request) server

-- Where a server that the rules name is usable, the first candidate in the rules' order is taken, and the cursor stays.
-- Elsewhere the balance decides.
abbrev pub pick : State → Request → (ℕ → Bool) → Option Picked
pick state request candidates =
    if meet (want_of request) (usable state) == 0 then balanced state.balance candidates state.servers state.cursor
    else option_map (picked state.cursor) (find candidates request.rules)

abbrev pub pin_pick : State → Request → List TablePin → Option Picked
pin_pick state request pins = pick state request (may_hold state request pins)

abbrev pub loose_pick : State → Request → Option Picked
loose_pick state request = pick state request (may_take state request)

-- ---- which of these a request needs

-- The pin stays: it stands in the table, and its place is honoured
pub record KeepsPin (old : State) (request : Request) (before : List TablePin) (found : TablePin) (after : List TablePin) (server : ℕ) : Type 0 where
  pub name : PinId
  pub named : name_of old request ≡ Some name
  pub stands : StandsBetween name old.pins before found after
  pub at : found.pin.place ≡ Some server
  pub honoured : honoured (Some server) (want_of request) (usable old) (serving old server) ≡ true

-- The pin moves: it stands in the table, and its place isn't honoured
pub record MovesPin (old : State) (request : Request) (before : List TablePin) (found : TablePin) (after : List TablePin) : Type 0 where
  pub name : PinId
  pub named : name_of old request ≡ Some name
  pub stands : StandsBetween name old.pins before found after
  pub not_honoured : (server : ℕ) → found.pin.place ≡ Some server
      → honoured (Some server) (want_of request) (usable old) (serving old server) ≡ false

-- A pin is made: none has its name, and the table has room or makes it
pub record MakesPin (old : State) (request : Request) (name : PinId) : Type 0 where
  pub named : name_of old request ≡ Some name
  pub unknown : IsNew name old.pins
  pub room : (is_full old && keeps_pins old) ≡ false

-- There is no pin for the request: it has no name, or it is new to a full table that keeps its pins
abbrev pub IsLoose : State → Request → Type 0
IsLoose old request = (name_of old request ≡ None) ⊎ (
    (name : PinId) × (name_of old request ≡ Some name) × IsNew name old.pins × ((is_full old && keeps_pins old) ≡ true))

-- ---- what becomes of it

-- the state after a request was served, where these pins stand in the table now
abbrev pub after_serve : State → Request → List TablePin → Option Stand → State
after_serve old request pins cursor = record old { pins = pins; cursor = cursor; latest = moment_of old request.moment }

-- the request gets the server, in this way
abbrev pub Serves : State → Request → ℕ → ServedAs → State → Type 0
-- the pin is where it was, and was used last
Serves old request server Kept new = (before : List TablePin) × (found : TablePin) × (after : List TablePin)
    × KeepsPin old request before found after server
    × (new ≡ after_serve old request (before ++ after ++ used_at found server (moment_of old request.moment) ∷ []) old.cursor)
-- the pin goes to the server that is picked, and was used last
Serves old request server Moved new = (before : List TablePin) × (found : TablePin) × (after : List TablePin) × (cursor : Option Stand)
    × MovesPin old request before found after
    × (pin_pick old request old.pins ≡ Some (picked cursor server))
    × (new ≡ after_serve old request (before ++ after ++ used_at found server (moment_of old request.moment) ∷ []) cursor)
-- a pin is made at the server that is picked; a full table loses a pin, which no longer counts in the pick
Serves old request server Made new = (name : PinId) × (cursor : Option Stand)
    × MakesPin old request name
    × (pin_pick old request (staying old) ≡ Some (picked cursor server))
    × (new ≡ after_serve old request (staying old ++ new_pin name request server (moment_of old request.moment) ∷ []) cursor)
-- the table stays as it is
Serves old request server Loose new = (cursor : Option Stand)
    × IsLoose old request
    × (loose_pick old request ≡ Some (picked cursor server))
    × (new ≡ after_serve old request old.pins cursor)

-- there is a pick to be made, and no server that can be taken
abbrev pub HasNoServer : State → Request → Type 0
HasNoServer old request =
    ((before : List TablePin) × (found : TablePin) × (after : List TablePin) × MovesPin old request before found after × (pin_pick old request old.pins ≡ None))
    ⊎ ((name : PinId) × MakesPin old request name × (pin_pick old request (staying old) ≡ None))
    ⊎ (IsLoose old request × (loose_pick old request ≡ None))
