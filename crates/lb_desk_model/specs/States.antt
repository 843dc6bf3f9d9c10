-- The state of a backend, and the view of it that planners see.
--
-- HAProxy Configuration Manual 2.8, section 5.2 (`check`, `rise`, `fall`, `weight`, `maxconn`, `backup`), `stick-table`
-- and `balance`; Management Guide 2.8, `set server`. A server's capacity for pins (`maxpins`) is our own.
use Rattle.std.specs.Prelude.{◌≡◌, ℕ, Bool, Option, None, List, [], map, slice_set}
use Rattle.std.specs.List.Sorted.{IsPermutation}
use Rattle.std.specs.Option.{option_map}
use Rattle.rise_fall.specs.Tally.{Tally}
use Rattle.rise_fall.specs.Health.{Base, fresh, tally_after}
use Rattle.pin_set.specs.declared.view.ViewServer.{ViewServer}
use Rattle.pin_set.specs.Views.{ViewParts, view_of_parts}
use Rattle.server_state.specs.declared.settings.AdminState.{AdminState}
use Rattle.server_state.specs.declared.settings.CheckSettings.{CheckSettings}
use Rattle.server_state.specs.Server.{ServerView}
use Rattle.server_state.specs.Farm.{FarmView}
use Rattle.lb_desk_model.specs.declared.backend.BackendServer.{BackendServer}
use Rattle.lb_types.specs.declared.table_settings.TableSettings.{TableSettings}
use Rattle.lb_types.specs.declared.balance.Balance.{Balance}
use Rattle.lb_desk_model.specs.declared.stand.Stand.{Stand}
use Rattle.pin_set.specs.declared.table_pin.TablePin.{TablePin}
use Rattle.lb_desk_model.specs.Backends.{BackendParts}

-- what is known of a checked server: how its checks count, and the results since their base
pub record Checks : Type 0 where
  pub rise : ℕ
  pub fall : ℕ
  pub base : Base
  pub results : List Bool

pub record ServerState : Type 0 where
  pub name : List ℕ
  pub admin : AdminState
  pub weight : ℕ
  -- how many connections may be open, where 0 is no limit
  pub max_connections : ℕ
  -- how many pins it may hold
  pub capacity : ℕ
  pub backup : Bool
  -- none for a server that isn't checked
  pub checks : Option Checks
  -- how many connections are open
  pub connections : ℕ

pub record State : Type 0 where
  -- what no event changes
  pub balance : Balance
  pub all_backups : Bool
  pub table : Option TableSettings
  -- the servers in the configuration's order. A server is its place in this list
  pub servers : List ServerState
  -- the pins in order of last use
  pub pins : List TablePin
  -- the stand that a round has come to, and none before the first round
  pub cursor : Option Stand
  -- the latest moment of a request that was served, or of a pin that was set
  pub latest : ℕ
  -- how many steps have changed the view
  pub version : ℕ

-- ---- the opening state

abbrev pub checks_at_start : CheckSettings → Checks
checks_at_start check = record { rise = check.rise; fall = check.fall; base = fresh; results = [] }

abbrev pub server_at_start : BackendServer → ServerState
server_at_start server = record {
  name = server.name;
  admin = server.settings.admin;
  weight = server.settings.weight;
  max_connections = server.settings.max_connections;
  capacity = server.settings.max_pins;
  backup = server.settings.backup;
  checks = option_map checks_at_start server.settings.check;
  connections = 0;
}

abbrev pub opening : BackendParts → State
opening backend = record {
  balance = backend.balance;
  all_backups = backend.all_backups;
  table = backend.table;
  servers = map server_at_start backend.servers;
  pins = [];
  cursor = None;
  latest = 0;
  version = 0;
}

-- ---- the servers

-- how the results count
abbrev pub health_of : Checks → Tally
health_of checks = tally_after checks.rise checks.fall checks.base checks.results

-- what decides whether a server serves, and may get new pins
abbrev pub seen_server : ServerState → ServerView
seen_server server = record {
  admin = server.admin;
  weight = server.weight;
  max_connections = server.max_connections;
  max_pins = server.capacity;
  backup = server.backup;
  health = option_map health_of server.checks;
}

-- the same of all servers
abbrev pub farm_of : State → FarmView
farm_of state = record { servers = map seen_server state.servers; all_backups = state.all_backups }

-- the server exists, isn't in maintenance, and is unchecked or up
abbrev pub serving : State → ℕ → Bool
serving state server = Rattle.server_state.specs.Farm.serving (farm_of state) server

-- the set of the servers that new pins may go to
abbrev pub usable : State → ℕ
usable state = Rattle.server_state.specs.Farm.usable (farm_of state)

-- the state with one server changed
abbrev pub with_server : State → ℕ → ServerState → State
with_server state server changed = record state { servers = slice_set state.servers server changed }

-- ---- the view

abbrev pub view_server : ServerState → ViewServer
view_server server = record { name = server.name; capacity = server.capacity }

-- the usable servers, the name and capacity of every server, and the pins with their places and costs
abbrev pub view_of : State → ViewParts
view_of state = view_of_parts (usable state) (map view_server state.servers) (map (λ p. p.pin) state.pins)

-- two views differ at most in the order of their pins
pub record SameView (a b : ViewParts) : Type 0 where
  pub usable : a.usable ≡ b.usable
  pub servers : a.servers ≡ b.servers
  pub pins : IsPermutation a.pins b.pins
