-- What a plan of moves costs for each pin, and what prices of the servers' places are worth: the transportation problem
-- and its dual, where a server's capacity has a price and a pin takes the option that is cheapest at the prices.
--
-- Servers are numbers, a place is a server or none, `price` and `capacity` are functions of the server's number, and `n`
-- is how many servers there are.
use Rattle.std.specs.Prelude.{ℕ, zero, suc, ◌+◌, ◌*◌, Bool, not, min, Option, Some, None, if◌then◌else◌}
use Rattle.lb_types.specs.Servers.{has}
use Rattle.lb_types_pins.specs.declared.kind.PinKind.{PinKind}
use Rattle.lb_types_pins.specs.Kinds.{same_place}

-- a pin of this kind that goes there changes its place
abbrev pub is_moved : PinKind → Option ℕ → Bool
is_moved kind to = not (same_place kind.place to)

-- what the move costs: the pin's cost if it changes its place, and nothing if it stays
abbrev pub move_cost : PinKind → Option ℕ → ℕ
move_cost kind to = if same_place kind.place to then 0 else kind.cost

-- what an option costs: going without a server costs `u` more
abbrev pub option_cost : ℕ → PinKind → Option ℕ → ℕ
option_cost u kind None = u + move_cost kind None
option_cost u kind (Some server) = move_cost kind (Some server)

-- the least of cost and price over the pin's options: no server, which has no price, and the permitted ones of the first n
unfoldable pub least : ℕ → (ℕ → ℕ) → ℕ → PinKind → ℕ
least u price zero kind = option_cost u kind None
least u price (suc n) kind =
    if has kind.permitted n then min (least u price n kind) (option_cost u kind (Some n) + price n) else least u price n kind

-- f 0 + .. + f (n - 1)
unfoldable pub sum_to : ℕ → (ℕ → ℕ) → ℕ
sum_to zero f = 0
sum_to (suc n) f = sum_to n f + f n

-- what the places of all servers are worth at the prices
abbrev pub held : ℕ → (ℕ → ℕ) → (ℕ → ℕ) → ℕ
held n capacity price = sum_to n (λ server. capacity server * price server)
