-- What a walk over the servers of a farm and a book compares. No public clause cites this module.
use Rattle.std.specs.Prelude.{◌≡◌, ℕ, ◌+◌, ◌-◌, ◌*◌, ◌<◌, Bool, true, ◌||◌, ◌==◌, nat_lt, nat_le, min, Option, Some, None, if◌then◌else◌}
use Rattle.lb_types.specs.Servers.{has}
use Rattle.pin_set.specs.Assignments.{is_at}
use Rattle.server_state.specs.Farm.{FarmView, weight_of, max_connections_of}
use Rattle.capacity_book.specs.Book.{BookView, pins_at, connections_at}
use Rattle.lb_desk_model.specs.declared.stand.Stand.{Stand}

-- each server of the set has a weight above 0, and so exists
abbrev pub HaveWeights : FarmView → ℕ → Type 0
HaveWeights farm set = (server : ℕ) → has set server ≡ true → 0 < weight_of farm server

-- how many pins the server holds, where one of the place `lost` isn't counted
abbrev pub pins_without : BookView → Option ℕ → ℕ → ℕ
pins_without book lost server = pins_at book server - (if is_at server lost then 1 else 0)

-- one connection more may be opened at the server
abbrev pub has_connection : FarmView → BookView → ℕ → Bool
has_connection farm book server =
    max_connections_of farm server == 0 || nat_lt (connections_at book server) (max_connections_of farm server)

-- the one has at most as many connections for its weight as the other
abbrev pub is_as_free : FarmView → BookView → ℕ → ℕ → Bool
is_as_free farm book one other =
    nat_le (connections_at book one * weight_of farm other) (connections_at book other * weight_of farm one)

-- the one found before, unless it isn't as free as the next
abbrev pub freer : (ℕ → ℕ → Bool) → Option ℕ → ℕ → Option ℕ
freer as_free None next = Some next
freer as_free (Some found) next = if as_free found next then Some found else Some next

-- the number of the first server behind the cursor's, at most `end`
abbrev pub first_behind : Option Stand → ℕ → ℕ
first_behind None end = 0
first_behind (Some cursor) end = min (cursor.server + 1) end
