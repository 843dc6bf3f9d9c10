-- What a change sets, and when it is refused: HAProxy Management Guide 2.8, `set server`, `set weight`,
-- `set maxconn server`. A refused change leaves everything as it was.
use Rattle.std.specs.Prelude.{[], ◌≡◌, ℕ, Bool, not, ◌&&◌, nat_lt, Option, Some, None, Result, OnOk, OnErr, slice_get, slice_set, is_none, if◌then◌else◌}
use Rattle.std.specs.Option.{option_map, option_map_or}
use Rattle.std.specs.Result.{result_err}
use Rattle.lb_types.specs.declared.limits.TheConstants.{MAX_CONNECTIONS, MAX_PINS, MAX_WEIGHT}
use Rattle.rise_fall.specs.Tally.{Tally}
use Rattle.rise_fall.specs.Health.{fresh, forced, tally_after}
use Rattle.server_state.specs.Server.{ServerView, is_maint}
use Rattle.server_state.specs.Farm.{FarmView}
use Rattle.server_state.specs.declared.settings.AdminState.{AdminState}
use Rattle.server_state.specs.declared.change.Setting.{Setting}
use Rattle.server_state.specs.declared.change.Setting.TheVariants.{Admin, Health, Weight, MaxConnections, MaxPins}
use Rattle.server_state.specs.declared.change.ChangeFault.{ChangeFault}
use Rattle.server_state.specs.declared.change.ChangeFault.TheVariants.{NoSuchServer, NotChecked, OutOfRange}

-- the number is beyond its range
abbrev pub above : ℕ → ℕ → Option ChangeFault
above limit number = if nat_lt limit number then Some OutOfRange else None

-- why this server refuses the setting, if it does
abbrev pub fault_at : ServerView → Setting → Option ChangeFault
fault_at server (Admin admin) = None
fault_at server (Health up) = if is_none server.health then Some NotChecked else None
fault_at server (Weight weight) = above MAX_WEIGHT weight
fault_at server (MaxConnections limit) = above MAX_CONNECTIONS limit
fault_at server (MaxPins limit) = above MAX_PINS limit

-- why the setting is refused, if it is
abbrev pub fault_of : FarmView → ℕ → Setting → Option ChangeFault
fault_of farm server setting =
    option_map_or (λ found. fault_at found setting) (slice_get farm.servers server) (Some NoSuchServer)

-- the health that a server has that leaves maintenance
abbrev pub rewarmed : Tally → Tally
rewarmed health = tally_after health.rise health.fall fresh []

-- the health that a server has that was forced up or down
abbrev pub forced_to : Bool → Tally → Tally
forced_to up health = tally_after health.rise health.fall (forced up) []

-- the server leaves maintenance, when its admin state is set so
abbrev pub leaves_maint : ServerView → AdminState → Bool
leaves_maint server admin = is_maint server.admin && not (is_maint admin)

-- the server with the setting
abbrev pub with_setting : ServerView → Setting → ServerView
with_setting server (Admin admin) = record server {
  admin = admin;
  health = if leaves_maint server admin then option_map rewarmed server.health else server.health;
}
with_setting server (Health up) = record server { health = option_map (forced_to up) server.health }
with_setting server (Weight weight) = record server { weight = weight }
with_setting server (MaxConnections limit) = record server { max_connections = limit }
with_setting server (MaxPins limit) = record server { max_pins = limit }

-- the farm with one of its servers in another state
abbrev pub with_server_as : FarmView → ℕ → ServerView → FarmView
with_server_as farm server found = record farm { servers = slice_set farm.servers server found }

-- the farm with one server's setting changed
abbrev pub with_change : FarmView → ℕ → Setting → FarmView
with_change farm server setting =
    option_map_or (λ found. with_server_as farm server (with_setting found setting)) (slice_get farm.servers server) farm

-- a setting is refused exactly where it has a fault, and then changes nothing; else it is set, and nothing else changes
pub record Sets (old new : FarmView) (result : Result (Unit {0}) ChangeFault) (server : ℕ) (setting : Setting) : Type 0 where
  pub fault : result_err result ≡ fault_of old server setting
  pub ok : OnOk result (new ≡ with_change old server setting)
  pub err : OnErr result (new ≡ old)
