-- What a sheet is. A sheet asks which server each pin is to have: it is the transportation problem's supply (groups of pins)
-- and demand (the servers' capacities). Places and sets of servers are in `lb_types`, kinds of pins in `lb_types_pins`.
use Rattle.std.specs.Prelude.{◌≡◌, ◌≢◌, ℕ, ◌^◌, ◌<◌, ◌≤◌, Bool, true, is_some, Option, option_and_then, List, slice_get, length, sum_by, All, AllPairs}
use Rattle.std.specs.Option.{ForSome}
use Rattle.lb_types.specs.declared.limits.TheConstants.{MAX_COST, MAX_PINS, MAX_SERVERS}
use Rattle.lb_types.specs.Names.{is_name}
use Rattle.lb_types.specs.Servers.{has}
use Rattle.lb_types_pins.specs.declared.kind.PinKind.{PinKind}
use Rattle.lb_types_pins.specs.declared.kind.Group.{Group}
use Rattle.lb_types_pins.specs.Kinds.{kind_before}
use Rattle.dual_cert_plan.specs.declared.server.Server.{Server}

-- the server of this number, if there is one
abbrev pub server_at : List Server → ℕ → Option Server
server_at servers server = slice_get servers server

-- the capacity of the server of this number: none where it is off or where there is no such server
abbrev pub capacity_of : List Server → ℕ → Option ℕ
capacity_of servers server = option_and_then (λ s. s.capacity) (server_at servers server)

-- pins may go to the server of this number
abbrev pub is_usable : List Server → ℕ → Bool
is_usable servers server = is_some (capacity_of servers server)

-- at most 128 servers with distinct names, and capacities below 2^32
pub record AreServers (servers : List Server) : Type 0 where
  pub few : length servers ≤ MAX_SERVERS
  pub named : All (λ s. is_name s.name ≡ true) servers
  pub distinct : AllPairs (λ a b. a.name ≢ b.name) servers
  pub capacities : All (λ s. ForSome s.capacity (λ c. c < 2 ^ 32)) servers

-- the place is none, or one of the servers
abbrev pub IsListed : List Server → Option ℕ → Type 0
IsListed servers place = ForSome place (λ server. server < length servers)

-- what the kind of a pin may say: it is at one of the servers or at none, may go to usable servers alone, and costs 1 to 1000
pub record IsKind (servers : List Server) (kind : PinKind) : Type 0 where
  pub place : IsListed servers kind.place
  pub permitted : (s : ℕ) → has kind.permitted s ≡ true → is_usable servers s ≡ true
  pub cost_from : 1 ≤ kind.cost
  pub cost_to : kind.cost ≤ MAX_COST

pub record SheetParts : Type 0 where
  pub version : ℕ
  pub servers : List Server
  pub groups : List Group

abbrev pub sheet_of_parts : ℕ → List Server → List Group → SheetParts
sheet_of_parts version servers groups = record { version = version; servers = servers; groups = groups }

-- what every sheet keeps
pub record IsSheet (sheet : SheetParts) : Type 0 where
  pub version : sheet.version ≤ 2 ^ 63
  pub servers : AreServers sheet.servers
  pub kinds : All (λ g. IsKind sheet.servers g.kind) sheet.groups
  pub counted : All (λ g. 1 ≤ g.count) sheet.groups
  pub total : sum_by (λ g. g.count) sheet.groups ≤ MAX_PINS
  pub rising : AllPairs (λ a b. kind_before a.kind b.kind ≡ true) sheet.groups
