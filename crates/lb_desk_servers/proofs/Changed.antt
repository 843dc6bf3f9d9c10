-- What is seen of a state with one of its servers changed.
use Rattle.std.proofs.Common.{◌≡◌, ℕ, Bool, true, false, Option, Some, None, List, [], ◌∷◌, map, slice_get, slice_set, sym, ap, ◌∙◌, refl, if◌then◌else◌}
use Rattle.std.specs.Option.{option_map}
use Rattle.std.proofs.lemmas.List.{map-set}
use Rattle.std.proofs.lemmas.Option.{get_or_from_slice_get, slice_get-map}
use Rattle.std.proofs.Math.Seq.{map-set_same}
use Rattle.rise_fall.specs.Tally.{Tally}
use Rattle.server_state.specs.declared.change.Setting.{Setting}
use Rattle.server_state.specs.declared.change.Setting.TheVariants.{Admin, Health, Weight, MaxConnections, MaxPins}
use Rattle.server_state.specs.Changes.{with_server_as}
use Rattle.server_state.specs.Changes.{with_setting as with_setting_seen}
use Rattle.server_state.specs.Changes.{rewarmed as rewarmed_seen}
use Rattle.server_state.specs.Changes.{forced_to as forced_seen}
use Rattle.server_state.specs.Farm.{FarmView}
use Rattle.server_state.specs.Server.{ServerView}
use Rattle.lb_desk_model.specs.Seen.{Seen, seen}
use Rattle.lb_desk_model.specs.Servers.{forced_to, leaves_maint, rewarmed, with_setting}
use Rattle.lb_desk_model.specs.States.{Checks, ServerState, State, farm_of, health_of, seen_server, with_server}

abbrev pub name_of : ServerState → List ℕ
name_of s = s.name

abbrev pub connections_of : ServerState → ℕ
connections_of s = s.connections

-- ---- one server

abbrev seen_health : Option Checks → Option Tally
seen_health checks = option_map health_of checks

abbrev with_health : ServerView → Option Tally → ServerView
with_health server health = record server { health = health }

seen_rewarmed : (test : Bool) (checks : Option Checks)
    → seen_health (if test then option_map rewarmed checks else checks)
    ≡ (if test then option_map rewarmed_seen (seen_health checks) else seen_health checks)
seen_rewarmed true (Some checks) = refl
seen_rewarmed true None = refl
seen_rewarmed false checks = refl

seen_forced : (up : Bool) (checks : Option Checks) → seen_health (option_map (forced_to up) checks) ≡ option_map (forced_seen up) (seen_health checks)
seen_forced up (Some checks) = refl
seen_forced up None = refl

pub setting_seen : (server : ServerState) (setting : Setting) → seen_server (with_setting server setting) ≡ with_setting_seen (seen_server server) setting
setting_seen server (Admin admin) =
    ap (with_health (record (seen_server server) { admin = admin })) (seen_rewarmed (leaves_maint server admin) server.checks)
setting_seen server (Health up) = ap (with_health (seen_server server)) (seen_forced up server.checks)
setting_seen server (Weight weight) = refl
setting_seen server (MaxConnections limit) = refl
setting_seen server (MaxPins limit) = refl

pub setting_name : (server : ServerState) (setting : Setting) → (with_setting server setting).name ≡ server.name
setting_name server (Admin admin) = refl
setting_name server (Health up) = refl
setting_name server (Weight weight) = refl
setting_name server (MaxConnections limit) = refl
setting_name server (MaxPins limit) = refl

pub setting_connections : (server : ServerState) (setting : Setting) → (with_setting server setting).connections ≡ server.connections
setting_connections server (Admin admin) = refl
setting_connections server (Health up) = refl
setting_connections server (Weight weight) = refl
setting_connections server (MaxConnections limit) = refl
setting_connections server (MaxPins limit) = refl

-- ---- one of them

pub get_seen : (state : State) (i : ℕ) (o : Option ServerState) → slice_get state.servers i ≡ o
    → slice_get (farm_of state).servers i ≡ option_map seen_server o
get_seen state i o at = slice_get-map seen_server state.servers i ∙ ap (option_map seen_server) at

pub map_same : {A B : Type 0} (f : A → B) (xs : List A) (i : ℕ) (x y : A) → slice_get xs i ≡ Some x → f y ≡ f x
    → map f (slice_set xs i y) ≡ map f xs
map_same f xs i x y found same =
    map-set_same f xs i y x (same ∙ ap f (sym (get_or_from_slice_get xs i x x found)))

abbrev parts : State → List (List ℕ) → FarmView → List ℕ → Seen
parts state names farm connections = record (seen state) { names = names; farm = farm; connections = connections }

abbrev farm_with : State → List ServerView → FarmView
farm_with state servers = record { servers = servers; all_backups = state.all_backups }

abbrev pub with_farm : Seen → FarmView → Seen
with_farm shown farm = record shown { farm = farm }

abbrev pub with_counts : Seen → List ℕ → Seen
with_counts shown connections = record shown { connections = connections }

-- a server that was changed in all but its name and its connections changes the farm alone
pub settings_seen : (state : State) (i : ℕ) (found changed : ServerState) (after : ServerView) → slice_get state.servers i ≡ Some found
    → changed.name ≡ found.name → changed.connections ≡ found.connections → seen_server changed ≡ after
    → seen (with_server state i changed) ≡ with_farm (seen state) (with_server_as (farm_of state) i after)
settings_seen state i found changed after at named connected is =
    let farm = farm_of (with_server state i changed) in
    ap (λ (ns : List (List ℕ)). parts state ns farm (map connections_of (slice_set state.servers i changed)))
    (map_same name_of state.servers i found changed at named)
    ∙ (ap (λ (cs : List ℕ). parts state (map name_of state.servers) farm cs) (map_same connections_of state.servers i found changed at connected)
    ∙ (ap (λ (vs : List ServerView). with_farm (seen state) (farm_with state vs)) (map-set seen_server state.servers i changed)
    ∙ ap (λ (v : ServerView). with_farm (seen state) (with_server_as (farm_of state) i v)) is))

-- a server whose connections were changed changes their list alone
pub connections_seen : (state : State) (i : ℕ) (found : ServerState) (count : ℕ) → slice_get state.servers i ≡ Some found
    → seen (with_server state i (record found { connections = count }))
    ≡ with_counts (seen state) (slice_set (map connections_of state.servers) i count)
connections_seen state i found count at =
    let changed : ServerState = record found { connections = count } in
    let counts = map connections_of (slice_set state.servers i changed) in
    ap (λ (ns : List (List ℕ)). parts state ns (farm_of (with_server state i changed)) counts)
    (map_same name_of state.servers i found changed at refl)
    ∙ (ap (λ (vs : List ServerView). parts state (map name_of state.servers) (farm_with state vs) counts)
    (map_same seen_server state.servers i found changed at refl)
    ∙ ap (λ (cs : List ℕ). with_counts (seen state) cs) (map-set connections_of state.servers i changed))
