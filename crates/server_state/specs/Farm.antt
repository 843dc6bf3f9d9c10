-- The servers of one backend, in the configuration's order, and which of them are usable: HAProxy Configuration Manual
-- 2.8, section 5.2 (`backup`) and section 4 (`option allbackups`). That drain and weight 0 leave a server out, and that
-- the first backup is the first that could take pins, are our own.
use Rattle.std.specs.Prelude.{◌≡◌, ◌≤◌, length, ℕ, Bool, true, false, not, List, [], ◌∷◌, filter, map, fold, take, slice_get, if◌then◌else◌}
use Rattle.std.specs.List.{enumerate_from}
use Rattle.std.specs.Option.{option_map_or}
use Rattle.lb_types.specs.declared.limits.TheConstants.{MAX_SERVERS}
use Rattle.lb_types.specs.Servers.{with_server}
use Rattle.server_state.specs.Server.{ServerView, serves, is_main, is_spare, server_at_start}
use Rattle.server_state.specs.declared.settings.ServerSettings.{ServerSettings}

-- a farm as it is seen: its servers, and whether all backups are usable together
pub record FarmView : Type 0 where
  pub servers : List ServerView
  pub all_backups : Bool

-- a server's number exists, and it serves
abbrev pub serving : FarmView → ℕ → Bool
serving farm server = option_map_or serves (slice_get farm.servers server) false

-- a server's weight. Of this and the two that follow: 0 where there is no such server
abbrev pub weight_of : FarmView → ℕ → ℕ
weight_of farm server = option_map_or (λ found. found.weight) (slice_get farm.servers server) 0

-- how many connections may be open at a server, where 0 is no limit
abbrev pub max_connections_of : FarmView → ℕ → ℕ
max_connections_of farm server = option_map_or (λ found. found.max_connections) (slice_get farm.servers server) 0

-- how many pins a server may hold
abbrev pub capacity_of : FarmView → ℕ → ℕ
capacity_of farm server = option_map_or (λ found. found.max_pins) (slice_get farm.servers server) 0

-- the numbers of the servers that pass the test, in order
abbrev pub numbers_where : (ServerView → Bool) → List ServerView → List ℕ
numbers_where test servers = map (λ numbered. numbered.0) (filter (λ numbered. test numbered.1) (enumerate_from 0 servers))

-- the servers that aren't backups and may get new pins
abbrev pub main_servers : List ServerView → List ℕ
main_servers servers = numbers_where is_main servers

-- the backups that may get new pins
abbrev pub spare_servers : List ServerView → List ℕ
spare_servers servers = numbers_where is_spare servers

-- there is no server in the list
abbrev pub is_empty : List ℕ → Bool
is_empty [] = true
is_empty (x ∷ xs) = false

-- the usable servers: those that aren't backups; if there are none, the first backup, or all backups
abbrev pub usable_servers : FarmView → List ℕ
usable_servers farm =
    let main = main_servers farm.servers in
    let spare = spare_servers farm.servers in
    if not (is_empty main) then main else (if farm.all_backups then spare else take 1 spare)

-- the set of the servers in a list
abbrev pub set_of : List ℕ → ℕ
set_of servers = fold with_server 0 servers

-- the set of the usable servers
unfoldable pub usable : FarmView → ℕ
usable farm = set_of (usable_servers farm)

-- the servers at the start
abbrev pub farm_at_start : List ServerSettings → Bool → FarmView
farm_at_start settings all_backups = record { servers = map server_at_start settings; all_backups = all_backups }

-- at most 128 servers, and the set of the usable ones
pub record IsFarm (servers : List ServerView) (all_backups : Bool) (usable_set : ℕ) : Type 0 where
  pub few : length servers ≤ MAX_SERVERS
  pub kept : usable_set ≡ usable (record { servers = servers; all_backups = all_backups })
