-- What a plan is, and which sheet it speaks of. A plan is a solution of the transportation problem with dual prices.
use Rattle.std.specs.Prelude.{◌≡◌, ℕ, ◌+◌, ◌^◌, ◌<◌, ◌≤◌, true, None, List, [], ◌∷◌, map, sum_by, All, AllPairs, if◌then◌else◌}
use Rattle.lb_types.specs.declared.limits.TheConstants.{MAX_PINS}
use Rattle.lb_types_pins.specs.declared.kind.PinKind.{PinKind}
use Rattle.lb_types_pins.specs.declared.kind.Group.{Group}
use Rattle.lb_types_pins.specs.declared.kind.Row.{Row}
use Rattle.lb_types_pins.specs.Kinds.{row_before, same_kind}
use Rattle.dual_cert_plan.specs.declared.server.Server.{Server}
use Rattle.dual_cert_plan.specs.declared.server.PricedServer.{PricedServer}
use Rattle.dual_cert_plan.specs.Sheets.{SheetParts, AreServers, IsListed, IsKind}

-- the servers without their prices
abbrev pub servers_of : List PricedServer → List Server
servers_of servers = map (λ priced. priced.server) servers

pub record PlanParts : Type 0 where
  pub version : ℕ
  pub servers : List PricedServer
  pub rows : List Row

abbrev pub plan_of_parts : ℕ → List PricedServer → List Row → PlanParts
plan_of_parts version servers rows = record { version = version; servers = servers; rows = rows }

-- what every plan keeps
pub record IsPlan (plan : PlanParts) : Type 0 where
  pub version : plan.version ≤ 2 ^ 63
  pub servers : AreServers (servers_of plan.servers)
  pub prices : All (λ s. s.price < 2 ^ 40) plan.servers
  pub off_has_no_price : All (λ s. s.server.capacity ≡ None → s.price ≡ 0) plan.servers
  pub kinds : All (λ r. IsKind (servers_of plan.servers) r.kind) plan.rows
  pub new_places : All (λ r. IsListed (servers_of plan.servers) r.new_place) plan.rows
  pub counted : All (λ r. 1 ≤ r.count) plan.rows
  pub total : sum_by (λ r. r.count) plan.rows ≤ MAX_PINS
  pub rising : AllPairs (λ a b. row_before a b ≡ true) plan.rows

-- the row's pins as a group
abbrev pub group_of : Row → Group
group_of row = record { kind = row.kind; count = row.count }

-- the group with so many pins more
abbrev pub grown : Group → ℕ → Group
grown group more = record { kind = group.kind; count = group.count + more }

-- a group put in front of others: into the first one, where that is of its kind
abbrev pub with_group : Group → List Group → List Group
with_group group [] = group ∷ []
with_group group (next ∷ groups) =
    if same_kind group.kind next.kind then grown group next.count ∷ groups else group ∷ (next ∷ groups)

-- the pins of the rows by kind, where rows of one kind stand together
unfoldable pub groups_of : List Row → List Group
groups_of [] = []
groups_of (row ∷ rows) = with_group (group_of row) (groups_of rows)

-- the sheet that a plan speaks of
unfoldable pub own_sheet : PlanParts → SheetParts
own_sheet plan = record { version = plan.version; servers = servers_of plan.servers; groups = groups_of plan.rows }

-- how many pins of the kind the groups have
abbrev pub pins_in_groups : PinKind → List Group → ℕ
pins_in_groups kind groups = sum_by (λ g. if same_kind kind g.kind then g.count else 0) groups

-- how many pins of the kind the rows have
abbrev pub pins_in_rows : PinKind → List Row → ℕ
pins_in_rows kind rows = sum_by (λ r. if same_kind kind r.kind then r.count else 0) rows
