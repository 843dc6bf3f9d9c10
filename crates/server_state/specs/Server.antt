-- One server as the balancer sees it: HAProxy Configuration Manual 2.8, section 5.2 (`weight`, `maxconn`, `check`,
-- `backup`, `disabled`), and Management Guide 2.8, `set server`. `maxpins`, the most pins that it may hold, is our own.
use Rattle.std.specs.Prelude.{[], ℕ, Bool, true, false, not, ◌&&◌, nat_lt, Option}
use Rattle.std.specs.Option.{option_map, option_map_or}
use Rattle.rise_fall.specs.Tally.{Tally}
use Rattle.rise_fall.specs.Health.{fresh, tally_after}
use Rattle.server_state.specs.declared.settings.AdminState.{AdminState}
use Rattle.server_state.specs.declared.settings.AdminState.TheVariants.{Ready, Drain, Maint}
use Rattle.server_state.specs.declared.settings.CheckSettings.{CheckSettings}
use Rattle.server_state.specs.declared.settings.ServerSettings.{ServerSettings}

-- a server as it is seen: what is set for it, and its health
pub record ServerView : Type 0 where
  pub admin : AdminState
  pub weight : ℕ
  pub max_connections : ℕ
  pub max_pins : ℕ
  pub backup : Bool
  -- none for a server that isn't checked
  pub health : Option Tally

-- the server is in maintenance
abbrev pub is_maint : AdminState → Bool
is_maint Ready = false
is_maint Drain = false
is_maint Maint = true

-- the server is ready for new pins
abbrev pub is_ready : AdminState → Bool
is_ready Ready = true
is_ready Drain = false
is_ready Maint = false

-- the health that a checked server has at the start
abbrev pub health_at_start : CheckSettings → Tally
health_at_start check = tally_after check.rise check.fall fresh []

-- a server at the start
abbrev pub server_at_start : ServerSettings → ServerView
server_at_start settings = record {
  admin = settings.admin;
  weight = settings.weight;
  max_connections = settings.max_connections;
  max_pins = settings.max_pins;
  backup = settings.backup;
  health = option_map health_at_start settings.check;
}

-- the server isn't in maintenance, and is unchecked or up
abbrev pub serves : ServerView → Bool
serves server = not (is_maint server.admin) && option_map_or (λ health. health.up) server.health true

-- what a server needs so that new pins may go to it
abbrev pub takes_pins : ServerView → Bool
takes_pins server = serves server && is_ready server.admin && nat_lt 0 server.weight

-- a server that isn't a backup, and may get new pins
abbrev pub is_main : ServerView → Bool
is_main server = not server.backup && takes_pins server

-- a backup that may get new pins
abbrev pub is_spare : ServerView → Bool
is_spare server = server.backup && takes_pins server
