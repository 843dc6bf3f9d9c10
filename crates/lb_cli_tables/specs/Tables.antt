-- A plan as tables: where pins go, and then the places with their pins. Lines end with a line feed (10), and columns are parted by a
-- tab (9). The first line of each table has the names of its columns.
use Rattle.std.specs.Prelude.{ℕ, ◌&&◌, ◌||◌, ◌==◌, Option, Some, None, List, [], ◌∷◌, ◌++◌, map, length, slice_get, sum_by, codes, if◌then◌else◌}
use Rattle.std.specs.Fmt.{decimal}
use Rattle.std.specs.List.{flat_map, range_with_len}
use Rattle.std.specs.Option.{option_map_or}
use Rattle.lb_types_pins.specs.declared.kind.Row.{Row}
use Rattle.lb_types_pins.specs.Kinds.{same_place}
use Rattle.dual_cert_plan.specs.declared.server.PricedServer.{PricedServer}
use Rattle.dual_cert_plan.specs.Plans.{PlanParts}

-- every place: none, and each of n servers
abbrev pub places : ℕ → List (Option ℕ)
places n = None ∷ map (λ server. Some server) (range_with_len 0 n)

-- how many pins the rows have at the place, send to it, and send from one place to another
abbrev pub pins_at : List Row → Option ℕ → ℕ
pins_at rows place = sum_by (λ r. if same_place r.kind.place place then r.count else 0) rows

abbrev pub pins_to : List Row → Option ℕ → ℕ
pins_to rows place = sum_by (λ r. if same_place r.new_place place then r.count else 0) rows

abbrev pub pins_between : List Row → Option ℕ → Option ℕ → ℕ
pins_between rows from to =
    sum_by (λ r. if same_place r.kind.place from && same_place r.new_place to then r.count else 0) rows

-- a place's name, with `-` for none
abbrev pub place_name : List PricedServer → Option ℕ → List ℕ
place_name servers None = codes "-"
place_name servers (Some server) = option_map_or (λ s. s.server.name) (slice_get servers server) []

-- the line of the pins that go from one place to another, where there are some
unfoldable pub move_line : PlanParts → Option ℕ → Option ℕ → List ℕ
move_line plan from to =
    if same_place from to || pins_between plan.rows from to == 0 then []
    else place_name plan.servers from ++ 9 ∷ place_name plan.servers to ++ 9 ∷ decimal (pins_between plan.rows from to) ++ 10 ∷ []

-- the lines of all that go from a place to one of these
abbrev pub moves_from : PlanParts → List (Option ℕ) → Option ℕ → List ℕ
moves_from plan all from = flat_map (move_line plan from) all

-- a server's capacity
abbrev pub capacity_word : Option ℕ → List ℕ
capacity_word None = codes "off"
capacity_word (Some capacity) = decimal capacity

-- a server's capacity and price
abbrev pub usage_columns : PricedServer → List ℕ
usage_columns s = capacity_word s.server.capacity ++ 9 ∷ decimal s.price

-- the same of a place, with `-` where it is none
abbrev pub place_columns : List PricedServer → Option ℕ → List ℕ
place_columns servers None = codes "-" ++ 9 ∷ codes "-"
place_columns servers (Some server) = option_map_or usage_columns (slice_get servers server) []

-- the line of a place: its name, its pins before and after, and its capacity and price
unfoldable pub place_line : PlanParts → Option ℕ → List ℕ
place_line plan place =
    place_name plan.servers place ++ 9 ∷ decimal (pins_at plan.rows place) ++ 9 ∷ decimal (pins_to plan.rows place)
    ++ 9 ∷ place_columns plan.servers place ++ 10 ∷ []

-- both tables
unfoldable pub tables_text : PlanParts → List ℕ
tables_text plan =
    let all = places (length plan.servers) in
    codes "from\tto\tpins\n" ++ flat_map (moves_from plan all) all
    ++ codes "server\tbefore\tafter\tcapacity\tprice\n" ++ flat_map (place_line plan) all
