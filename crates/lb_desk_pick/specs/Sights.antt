-- The states that a running desk may be in, as far as it can tell when it picks a server. It keeps a farm (what is set for
-- each server, and its health) and a book (how many pins and open connections each server has), and no more of a server.
-- Our own; the picks themselves are those of lb_desk_model.
use Rattle.std.specs.Prelude.{◌≡◌, ℕ, ◌<◌, Option, None, List, map, length, slice_get, if◌then◌else◌}
use Rattle.std.specs.Option.{option_and_then}
use Rattle.server_state.specs.Farm.{FarmView}
use Rattle.capacity_book.specs.Book.{BookView, pins_at}
use Rattle.lb_types.specs.declared.balance.Balance.{Balance}
use Rattle.lb_desk_model.specs.declared.event.Request.{Request}
use Rattle.lb_desk_model.specs.declared.stand.Stand.{Stand}
use Rattle.lb_desk_model.specs.Serves.{is_full, load}
use Rattle.lb_desk_model.specs.States.{ServerState, State, farm_of, seen_server}

-- the servers are seen so: by their settings and health, and by their open connections
pub record AreSeen (farm : FarmView) (book : BookView) (servers : List ServerState) : Type 0 where
  pub settings : map seen_server servers ≡ farm.servers
  pub connections : map (λ s. s.connections) servers ≡ book.connections

-- the state is seen so
pub record IsSeen (balance : Balance) (farm : FarmView) (book : BookView) (cursor : Option Stand) (state : State) : Type 0 where
  pub balance_is : state.balance ≡ balance
  pub farm_is : farm_of state ≡ farm
  pub connections : map (λ s. s.connections) state.servers ≡ book.connections
  -- the book counts the table's pins
  pub loads : (server : ℕ) → server < length state.servers → pins_at book server ≡ load state.pins server
  pub cursor_is : state.cursor ≡ cursor

-- at every state that is seen so, and for every request whose rules name these servers
abbrev pub ForEachSeen : Balance → FarmView → BookView → Option Stand → List ℕ → (State → Request → Type 0) → Type 0
ForEachSeen balance farm book cursor rules P =
    (state : State) (request : Request) → IsSeen balance farm book cursor state → request.rules ≡ rules → P state request

-- the place of the pin that leaves the table where one is made: in a full table the one that wasn't used for the longest time
abbrev pub lost_place : State → Option ℕ
lost_place state = if is_full state then option_and_then (λ p. p.pin.place) (slice_get state.pins 0) else None
