-- What connections, checks and commands do to one server: HAProxy Configuration Manual 2.8, section 5.2 (`maxconn`,
-- `check`, `rise`, `fall`), and Management Guide 2.8, `set server`, `set weight`, `set maxconn server`. What leaving
-- maintenance and a forced health mean for the results is our own.
use Rattle.std.specs.Prelude.{◌≡◌, ℕ, ◌+◌, ◌-◌, ◌≤◌, Bool, true, false, not, ◌&&◌, Some, None, [], ◌∷◌, ◌++◌, slice_get, if◌then◌else◌}
use Rattle.std.specs.Option.{option_map}
use Rattle.rise_fall.specs.Health.{fresh, forced, is_up, flip_between}
use Rattle.rise_fall.specs.declared.flip.Flip.{Flip}
use Rattle.server_state.specs.declared.settings.AdminState.{AdminState}
use Rattle.server_state.specs.declared.change.Change.{Change}
use Rattle.server_state.specs.declared.change.ChangeFault.{ChangeFault}
use Rattle.server_state.specs.declared.change.ChangeFault.TheVariants.{NoSuchServer, NotChecked, OutOfRange}
use Rattle.server_state.specs.declared.change.Setting.{Setting}
use Rattle.server_state.specs.declared.change.Setting.TheVariants.{Admin, Health, Weight, MaxConnections, MaxPins}
use Rattle.server_state.specs.Server.{is_maint}
use Rattle.server_state.specs.Changes.{fault_of}
use Rattle.server_state.specs.Checks.{check_fault}
use Rattle.lb_desk_model.specs.declared.reply.Refusal.{Refusal}
use Rattle.lb_desk_model.specs.Picks.{has_room}
use Rattle.lb_desk_model.specs.States.{Checks, ServerState, State, farm_of, serving, with_server}

-- ---- connections

-- one more connection is open at a server that serves and has room
pub record Opens (old : State) (server : ℕ) (new : State) : Type 0 where
  pub found : ServerState
  pub is : slice_get old.servers server ≡ Some found
  pub serves : serving old server ≡ true
  pub room : has_room old.servers server ≡ true
  pub new_is : new ≡ with_server old server (record found { connections = found.connections + 1 })

-- one fewer is open at a server where one was
pub record Closes (old : State) (server : ℕ) (new : State) : Type 0 where
  pub found : ServerState
  pub is : slice_get old.servers server ≡ Some found
  pub some : 1 ≤ found.connections
  pub new_is : new ≡ with_server old server (record found { connections = found.connections - 1 })

-- ---- checks

-- the same server with one result more
abbrev pub with_result : Checks → Bool → Checks
with_result checks ok = record checks { results = checks.results ++ ok ∷ [] }

abbrev pub is_healthy : Checks → Bool
is_healthy checks = is_up checks.rise checks.fall checks.base checks.results

-- the result counts, at a checked server that isn't in maintenance
pub record TakesResult (old : State) (server : ℕ) (ok : Bool) (flip : Flip) (new : State) : Type 0 where
  pub found : ServerState
  pub is : slice_get old.servers server ≡ Some found
  pub checks : Checks
  pub checked : found.checks ≡ Some checks
  pub watched : is_maint found.admin ≡ false
  pub flip_is : flip ≡ flip_between (is_healthy checks) (is_healthy (with_result checks ok))
  pub new_is : new ≡ with_server old server (record found { checks = Some (with_result checks ok) })

-- the server is checked, and in maintenance
pub record IgnoresResult (old : State) (server : ℕ) : Type 0 where
  pub found : ServerState
  pub is : slice_get old.servers server ≡ Some found
  pub checks : Checks
  pub checked : found.checks ≡ Some checks
  pub unwatched : is_maint found.admin ≡ true

-- ---- commands

-- the refusal that tells the fault
abbrev pub refusal_of : ChangeFault → Refusal
refusal_of NoSuchServer = Refusal.NoSuchServer
refusal_of NotChecked = Refusal.NotChecked
refusal_of OutOfRange = Refusal.OutOfRange

-- the checks count from the start again
abbrev pub rewarmed : Checks → Checks
rewarmed checks = record checks { base = fresh; results = [] }

-- the checks count as if the results had come that make the server up, or down
abbrev pub forced_to : Bool → Checks → Checks
forced_to up checks = record checks { base = forced up; results = [] }

-- the server is in maintenance, and won't be
abbrev pub leaves_maint : ServerState → AdminState → Bool
leaves_maint server admin = is_maint server.admin && not (is_maint admin)

-- the server with the setting
abbrev pub with_setting : ServerState → Setting → ServerState
with_setting server (Admin admin) = record server {
  admin = admin;
  checks = if leaves_maint server admin then option_map rewarmed server.checks else server.checks;
}
with_setting server (Health up) = record server { checks = option_map (forced_to up) server.checks }
with_setting server (Weight weight) = record server { weight = weight }
with_setting server (MaxConnections limit) = record server { max_connections = limit }
with_setting server (MaxPins limit) = record server { capacity = limit }

-- the change is made, where nothing speaks against it
pub record Changes (old : State) (change : Change) (new : State) : Type 0 where
  pub found : ServerState
  pub is : slice_get old.servers change.server ≡ Some found
  pub no_fault : fault_of (farm_of old) change.server change.setting ≡ None
  pub new_is : new ≡ with_server old change.server (with_setting found change.setting)

-- the fault speaks against the change
abbrev pub RefusesChange : State → Change → Refusal → Type 0
RefusesChange old change refusal =
    (fault : ChangeFault) × (fault_of (farm_of old) change.server change.setting ≡ Some fault) × (refusal ≡ refusal_of fault)

-- there is no such server, or it isn't checked
abbrev pub RefusesResult : State → ℕ → Refusal → Type 0
RefusesResult old server refusal =
    (fault : ChangeFault) × (check_fault (farm_of old) server ≡ Some fault) × (refusal ≡ refusal_of fault)
