-- The verdict on a plan for a sheet.
--
-- A plan carries its own proof. It is a solution of a transportation problem, its prices are a solution of the dual problem,
-- and where the two have one value both are best (weak duality of linear programs). So the verdict reads the plan and its
-- prices alone: no other plan is looked at, and it doesn't matter where the prices come from.
use Rattle.std.specs.Prelude.{◌≡◌, ℕ, ◌+◌, ◌≤◌, Bool, not, ◌&&◌, ◌==◌, nat_le, List, length, slice_get, unwrap_or, Result, Ok, Err, All, if◌then◌else◌}
use Rattle.std.specs.List.{list_all, range_with_len}
use Rattle.std.specs.Option.{option_eq, option_map_or}
use Rattle.std.specs.Prelude.{nat_eq}
use Rattle.std.specs.Cmp.Lexicographic.{pointwise}
use Rattle.lb_types_pins.specs.declared.kind.Group.{Group}
use Rattle.lb_types_pins.specs.Kinds.{same_kind}
use Rattle.pin_set.specs.declared.totals.Score.{Score}
use Rattle.pin_set.specs.Costs.{held}
use Rattle.pin_set.specs.Assignments.{may_go}
use Rattle.pin_set.specs.Rows.{rows_load, rows_score, rows_unplaced_cost, rows_cost, rows_least, RowMayGo}
use Rattle.dual_cert_plan.specs.declared.server.Server.{Server}
use Rattle.dual_cert_plan.specs.declared.server.PricedServer.{PricedServer}
use Rattle.dual_cert_plan.specs.Sheets.{SheetParts, capacity_of}
use Rattle.dual_cert_plan.specs.Plans.{PlanParts, servers_of, groups_of}
use Rattle.cert_check.specs.declared.fault.CheckFault.{CheckFault}
use Rattle.cert_check.specs.declared.fault.CheckFault.TheVariants.{RowsDiffer, NotPermitted, OverCapacity, NotShown}

-- how many pins may be at the server of this number: its capacity, and none where it is off or where there is no such server
abbrev pub room : List Server → ℕ → ℕ
room servers server = unwrap_or (capacity_of servers server) 0

-- the price of a place at the server of this number, and 0 where there is no such server
abbrev pub price_at : List PricedServer → ℕ → ℕ
price_at servers server = option_map_or (λ s. s.price) (slice_get servers server) 0

-- ---- what a plan must be

-- the plan is made for the sheet: it has the sheet's servers, in the sheet's order, with their names and capacities, and the
-- sheet's pins by kind. Versions aren't compared, and prices are the plan's own
pub record IsMadeFor (sheet : SheetParts) (plan : PlanParts) : Type 0 where
  pub servers : servers_of plan.servers ≡ sheet.servers
  pub groups : groups_of plan.rows ≡ sheet.groups

-- each pin goes to no server, or to one that it may be at
abbrev pub IsPermitted : PlanParts → Type 0
IsPermitted plan = All RowMayGo plan.rows

-- no server gets more pins than it has room for
abbrev pub IsWithinCapacity : SheetParts → PlanParts → Type 0
IsWithinCapacity sheet plan = (server : ℕ) → rows_load plan.rows server ≤ room sheet.servers server

-- what the plan costs: each pin's cost at its new place, where going without a server costs more than all moves together
abbrev pub cost_of : PlanParts → ℕ
cost_of plan = rows_cost (rows_unplaced_cost plan.rows) plan.rows

-- the least of cost and price over each pin's options, for all pins together
abbrev pub least_of : PlanParts → ℕ
least_of plan = rows_least (rows_unplaced_cost plan.rows) (price_at plan.servers) (length plan.servers) plan.rows

-- what the places of all servers are worth at the plan's prices: capacity, and not load, times price
abbrev pub worth_of : SheetParts → PlanParts → ℕ
worth_of sheet plan = held (length plan.servers) (room sheet.servers) (price_at plan.servers)

-- The cost meets the bound that the prices give. The bound is `least_of` less `worth_of`; the latter stands on the side of the
-- cost, since a difference of natural numbers would stop at 0
abbrev pub IsShown : SheetParts → PlanParts → Type 0
IsShown sheet plan = cost_of plan + worth_of sheet plan ≡ least_of plan

-- ---- the same as tests

-- two servers have one name, and one capacity or are both off
abbrev pub same_server : Server → Server → Bool
same_server a b = pointwise nat_eq a.name b.name && option_eq nat_eq a.capacity b.capacity

-- two groups are of one kind and of one size
abbrev pub same_group : Group → Group → Bool
same_group a b = same_kind a.kind b.kind && a.count == b.count

-- the servers are the sheet's one by one, and so are the groups
abbrev pub is_made_for : SheetParts → PlanParts → Bool
is_made_for sheet plan =
    pointwise same_server (servers_of plan.servers) sheet.servers && pointwise same_group (groups_of plan.rows) sheet.groups

-- each row's pins may go where the row sends them
abbrev pub is_permitted : PlanParts → Bool
is_permitted plan = list_all (λ r. may_go r.kind r.new_place) plan.rows

-- of the servers that there are, none gets more pins than it has room for
abbrev pub is_within_capacity : SheetParts → PlanParts → Bool
is_within_capacity sheet plan =
    list_all (λ s. nat_le (rows_load plan.rows s) (room sheet.servers s)) (range_with_len 0 (length sheet.servers))

-- cost and bound are equal
abbrev pub is_shown : SheetParts → PlanParts → Bool
is_shown sheet plan = cost_of plan + worth_of sheet plan == least_of plan

-- the first fault that holds, or else the plan's score
unfoldable pub verdict : SheetParts → PlanParts → Result Score CheckFault
verdict sheet plan =
    if not (is_made_for sheet plan) then Err RowsDiffer
    else (if not (is_permitted plan) then Err NotPermitted
    else (if not (is_within_capacity sheet plan) then Err OverCapacity
    else (if not (is_shown sheet plan) then Err NotShown
    else Ok (rows_score plan.rows))))
