-- What a running desk can show of a state: all of it but the results of checks, of which it keeps how they count. A desk's
-- step is said for every state that it shows.
use Rattle.std.specs.Prelude.{◌≡◌, ℕ, Option, List, map}
use Rattle.std.specs.List.{zip}
use Rattle.pin_set.specs.declared.view.ViewServer.{ViewServer}
use Rattle.pin_set.specs.Views.{ViewParts, view_of_parts}
use Rattle.server_state.specs.Server.{ServerView}
use Rattle.server_state.specs.Farm.{FarmView}
use Rattle.lb_types.specs.declared.table_settings.TableSettings.{TableSettings}
use Rattle.lb_types.specs.declared.balance.Balance.{Balance}
use Rattle.lb_desk_model.specs.declared.event.Event.{Event}
use Rattle.lb_desk_model.specs.declared.reply.Reply.{Reply}
use Rattle.lb_desk_model.specs.declared.stand.Stand.{Stand}
use Rattle.pin_set.specs.declared.table_pin.TablePin.{TablePin}
use Rattle.lb_desk_model.specs.States.{State, farm_of}
use Rattle.lb_desk_model.specs.Steps.{Does, Step}

-- the lists of servers stand side by side: a server is its place in each of them
pub record Seen : Type 0 where
  -- what no event changes
  pub balance : Balance
  pub table : Option TableSettings
  pub names : List (List ℕ)
  -- what decides whether a server serves, and may get new pins
  pub farm : FarmView
  -- how many connections are open at each server
  pub connections : List ℕ
  -- the pins in order of last use
  pub pins : List TablePin
  pub cursor : Option Stand
  pub latest : ℕ
  pub version : ℕ

abbrev pub seen : State → Seen
seen state = record {
  balance = state.balance;
  table = state.table;
  names = map (λ s. s.name) state.servers;
  farm = farm_of state;
  connections = map (λ s. s.connections) state.servers;
  pins = state.pins;
  cursor = state.cursor;
  latest = state.latest;
  version = state.version;
}

-- ---- the view of what is seen

abbrev pub named_server : List ℕ × ServerView → ViewServer
named_server m = record { name = m.0; capacity = m.1.max_pins }

-- the usable servers, the name and capacity of every server, and the pins with their places and costs
abbrev pub view_seen : Seen → ViewParts
view_seen shown = view_of_parts (Rattle.server_state.specs.Farm.usable shown.farm)
    (map named_server (zip shown.names shown.farm.servers)) (map (λ p. p.pin) shown.pins)

-- ---- steps of what is seen

-- the event does something to the state with this reply, and leaves what shows this. The version isn't counted yet
pub record Acts (state : State) (event : Event) (reply : Reply) (new : Seen) : Type 0 where
  pub acted : State
  pub does : Does state event reply acted
  pub shown : seen acted ≡ new

-- some step of the state leads to one that shows this
pub record Next (state : State) (event : Event) (reply : Reply) (new : Seen) : Type 0 where
  pub next : State
  pub step : Step state event reply next
  pub shown : seen next ≡ new

-- whichever state is shown, the event is a step of it with this reply, and the state behind it shows the new one
abbrev pub Steps : Seen → Event → Reply → Seen → Type 0
Steps old event reply new = (state : State) → seen state ≡ old → Next state event reply new
