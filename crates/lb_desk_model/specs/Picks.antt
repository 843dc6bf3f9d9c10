-- Which server a request without a place gets: HAProxy Configuration Manual 2.8, `balance` (`roundrobin`, `leastconn`,
-- `first`) and `use-server`. The round of stands, what breaks ties under `leastconn`, and what `first` does when all
-- servers are full are our own.
--
-- `candidates` tells which servers may be taken. A server is its place in the list of servers.
use Rattle.std.specs.Prelude.{ℕ, ◌*◌, Bool, true, not, ◌&&◌, ◌||◌, ◌==◌, nat_lt, nat_le, Option, Some, None, List, ◌++◌, map, filter, length, slice_get}
use Rattle.std.specs.List.{find, flat_map, enumerate_from, range_with_len, list_all}
use Rattle.std.specs.Option.{option_map, option_map_or, option_or}
use Rattle.lb_types.specs.declared.balance.Balance.{Balance}
use Rattle.lb_types.specs.declared.balance.Balance.TheVariants.{RoundRobin, LeastConnections, First}
use Rattle.lb_desk_model.specs.declared.stand.Stand.{Stand}
use Rattle.lb_desk_model.specs.States.{ServerState}

-- a server, and the cursor after it was taken
pub record Picked : Type 0 where
  pub server : ℕ
  pub cursor : Option Stand

abbrev pub picked : Option Stand → ℕ → Picked
picked cursor server = record { server = server; cursor = cursor }

abbrev pub stand : ℕ → ℕ → Stand
stand server turn = record { server = server; turn = turn }

-- ---- the round

-- (server, 1), (server, 2), .. up to the server's weight
abbrev pub stands_of : ℕ × ServerState → List Stand
stands_of numbered = map (stand numbered.0) (range_with_len 1 numbered.1.weight)

-- each server as often as its weight, in the configuration's order
abbrev pub stands : List ServerState → List Stand
stands servers = flat_map stands_of (enumerate_from 0 servers)

-- the stand is behind the cursor: at a later server, or at the same one with a later turn
abbrev pub is_behind : Option Stand → Stand → Bool
is_behind None s = true
is_behind (Some cursor) s = nat_lt cursor.server s.server || (cursor.server == s.server && nat_lt cursor.turn s.turn)

-- once round: what passes the test first, and then the rest
abbrev pub round_from : {A : Type 0} → (A → Bool) → List A → List A
round_from test xs = filter test xs ++ filter (λ x. not (test x)) xs

-- the next stand of a candidate behind the cursor, going round
abbrev pub next_stand : (ℕ → Bool) → List ServerState → Option Stand → Option Stand
next_stand candidates servers cursor = find (λ s. candidates s.server) (round_from (is_behind cursor) (stands servers))

-- ---- the servers in turn

-- the server is behind the cursor's
abbrev pub is_server_behind : Option Stand → ℕ → Bool
is_server_behind None server = true
is_server_behind (Some cursor) server = nat_lt cursor.server server

-- the numbers of all servers
abbrev pub numbers : List ServerState → List ℕ
numbers servers = range_with_len 0 (length servers)

abbrev pub weight_at : List ServerState → ℕ → ℕ
weight_at servers server = option_map_or (λ s. s.weight) (slice_get servers server) 0

abbrev pub connections_at : List ServerState → ℕ → ℕ
connections_at servers server = option_map_or (λ s. s.connections) (slice_get servers server) 0

abbrev pub max_connections_at : List ServerState → ℕ → ℕ
max_connections_at servers server = option_map_or (λ s. s.max_connections) (slice_get servers server) 0

-- the one has at most as many connections for its weight as the other. Both sides are multiplied by both weights
abbrev pub is_as_free : List ServerState → ℕ → ℕ → Bool
is_as_free servers one other =
    nat_le (connections_at servers one * weight_at servers other) (connections_at servers other * weight_at servers one)

-- a candidate than which none has fewer connections for its weight
abbrev pub is_least : (ℕ → Bool) → List ServerState → ℕ → Bool
is_least candidates servers one =
    candidates one && list_all (λ other. not (candidates other) || is_as_free servers one other) (numbers servers)

-- the first of these behind the cursor's server, going round
abbrev pub least_loaded : (ℕ → Bool) → List ServerState → Option Stand → Option ℕ
least_loaded candidates servers cursor = find (is_least candidates servers) (round_from (is_server_behind cursor) (numbers servers))

-- ---- the first one

-- a connection more may be opened at the server
abbrev pub has_room : List ServerState → ℕ → Bool
has_room servers server =
    max_connections_at servers server == 0 || nat_lt (connections_at servers server) (max_connections_at servers server)

-- the first candidate with a free connection; if there is none, the first candidate
abbrev pub first_free : (ℕ → Bool) → List ServerState → Option ℕ
first_free candidates servers =
    option_or (find (λ s. candidates s && has_room servers s) (numbers servers)) (find candidates (numbers servers))

-- ---- all three

-- which server is taken, and where the cursor stands after it
abbrev pub balanced : Balance → (ℕ → Bool) → List ServerState → Option Stand → Option Picked
balanced RoundRobin candidates servers cursor = option_map (λ s. picked (Some s) s.server) (next_stand candidates servers cursor)
balanced LeastConnections candidates servers cursor =
    option_map (λ server. picked (Some (stand server 1)) server) (least_loaded candidates servers cursor)
balanced First candidates servers cursor = option_map (picked cursor) (first_free candidates servers)
