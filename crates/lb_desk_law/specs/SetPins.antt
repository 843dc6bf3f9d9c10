-- Pins that are set, and cleared: the requests that come after it, and tables that are made of them.
use Rattle.std.specs.Prelude.{◌≡◌, ◌≢◌, ℕ, ◌<◌, ◌≤◌, true, Some, List, [], ◌∷◌, length, All, AllPairs}
use Rattle.lb_types.specs.declared.table_settings.TableSettings.{TableSettings}
use Rattle.lb_types.specs.Servers.{members}
use Rattle.pin_set.specs.declared.pin.PinId.{PinId}
use Rattle.pin_set.specs.declared.table_pin.TablePin.{TablePin}
use Rattle.pin_set.specs.Pins.{honoured}
use Rattle.pin_set.specs.Views.{IsBelow}
use Rattle.lb_desk_model.specs.declared.entry.Entry.{Entry}
use Rattle.lb_desk_model.specs.declared.event.Event.TheVariants.{Serve, Set, Clear}
use Rattle.lb_desk_model.specs.declared.event.Request.{Request}
use Rattle.lb_desk_model.specs.declared.event.SetPin.{SetPin}
use Rattle.lb_desk_model.specs.declared.reply.PinnedAs.{PinnedAs}
use Rattle.lb_desk_model.specs.declared.reply.Reply.{Reply}
use Rattle.lb_desk_model.specs.declared.reply.Reply.TheVariants.{Served, Pinned}
use Rattle.lb_desk_model.specs.declared.reply.ServedAs.TheVariants.{Kept}
use Rattle.lb_desk_model.specs.Backends.{BackendParts}
use Rattle.lb_desk_model.specs.Histories.{History}
use Rattle.lb_desk_model.specs.Serves.{AreServers, name_of, want_of}
use Rattle.lb_desk_model.specs.States.{State, opening, serving, usable}
use Rattle.lb_desk_model.specs.Steps.{Step}

-- After a set that was answered pinned, a request of the pin's name is served by the server of the set, and the pin is kept, if that
-- place is honoured: the server serves, and the rules name it or no usable one
abbrev pub SetPinsAreKept : Type 0
SetPinsAreKept = (backend : BackendParts) (log : List Entry) (old mid new : State) (set : SetPin) (how : PinnedAs) (request : Request) (reply : Reply)
    → History (opening backend) log old → Step old (Set set) (Pinned how) mid
    → name_of mid request ≡ Some set.name → AreServers mid request.rules
    → honoured (Some set.server) (want_of request) (usable mid) (serving mid set.server) ≡ true
    → Step mid (Serve request) reply new → reply ≡ Served set.server Kept

-- ---- each has one reply, and leaves one state

abbrev pub SetsAreOne : Type 0
SetsAreOne = (backend : BackendParts) (log : List Entry) (old : State) (set : SetPin) (reply other : Reply) (new next : State)
    → History (opening backend) log old → Step old (Set set) reply new → Step old (Set set) other next → (reply ≡ other) × (new ≡ next)

abbrev pub ClearsAreOne : Type 0
ClearsAreOne = (backend : BackendParts) (log : List Entry) (old : State) (name : PinId) (reply other : Reply) (new next : State)
    → History (opening backend) log old → Step old (Clear name) reply new → Step old (Clear name) other next → (reply ≡ other) × (new ≡ next)

-- ---- a table that is made of them

-- the pin is set as it stands
pub record IsSetOf (p : TablePin) (set : SetPin) : Type 0 where
  pub name : set.name ≡ p.pin.id
  pub place : p.pin.place ≡ Some set.server
  pub cost : set.cost ≡ p.pin.cost
  pub moment : set.moment ≡ p.last_use

-- each of these pins is set, in their order
abbrev pub AreSetsOf : List TablePin → List Entry → Type 0
AreSetsOf [] [] = Unit {0}
AreSetsOf (p ∷ pins) (entry ∷ entries) = ((set : SetPin) × (entry.event ≡ Set set) × IsSetOf p set) × AreSetsOf pins entries
AreSetsOf pins entries = ⊥

-- The state's table is large enough for these pins of distinct names, whose last uses never fall along the list, and of which none was
-- used before the latest moment. The servers that they are at, and those that they want, exist
pub record MayStand (state : State) (pins : List TablePin) : Type 0 where
  pub table : TableSettings
  pub is_set : state.table ≡ Some table
  pub few : length pins ≤ table.size
  pub distinct : AllPairs (λ a b. a.pin.id ≢ b.pin.id) pins
  pub rising : AllPairs (λ a b. a.last_use ≤ b.last_use) pins
  pub late : All (λ p. state.latest ≤ p.last_use) pins
  pub placed : All (λ p. IsBelow (length state.servers) p.pin.place) pins
  pub wanted : All (λ p. All (λ server. server < length state.servers) (members p.pin.id.want)) pins

-- set in their order where there is no pin, they are the table
abbrev pub SetPinsMakeTheTable : Type 0
SetPinsMakeTheTable = (state new : State) (pins : List TablePin) (entries : List Entry) → state.pins ≡ [] → MayStand state pins
    → AreSetsOf pins entries → History state entries new → new.pins ≡ pins
