-- The planner's answer as a plan, and that a checker accepts it. A sheet is a transportation problem; its network has an option
-- for going without a server and one for each server; a state of it that breaks no capacity is an optimal solution with its
-- dual prices.
use Rattle.std.specs.Prelude.{◌≡◌, ℕ, suc, ◌+◌, ◌*◌, ◌<◌, ◌≤◌, Ok, List, ◌∷◌, length, map, sum_by, unwrap_or, if◌then◌else◌}
use Rattle.lb_types_pins.specs.declared.kind.Group.{Group}
use Rattle.pin_set.specs.Rows.{rows_score}
use Rattle.dual_cert_plan.specs.declared.server.Server.{Server}
use Rattle.dual_cert_plan.specs.Sheets.{SheetParts, IsSheet, is_usable}
use Rattle.dual_cert_plan.specs.Plans.{PlanParts, IsPlan, servers_of}
use Rattle.cert_check.specs.Verdict.{price_at, verdict}
use Rattle.flow_planner_net.specs.Networks.{NetworkParts, options, capacity}
use Rattle.flow_planner_net.specs.States.{IsState}
use Rattle.flow_planner_net.specs.RowLists.{rows_of}

-- how many pins each option has room for: more than there can be for no server, and nothing for a server that is off
abbrev pub capacities_of : List Server → List ℕ
capacities_of servers = 4294967295 ∷ map (λ s. unwrap_or s.capacity 0) servers

-- what it costs to leave a pin without a server: more than to move all pins
abbrev pub unplaced_cost_of : List Group → ℕ
unplaced_cost_of groups = 1 + sum_by (λ g. g.count * g.kind.cost) groups

-- the network of a sheet
abbrev pub network_of : SheetParts → NetworkParts
network_of sheet = record {
  unplaced_cost = unplaced_cost_of sheet.groups;
  groups = sheet.groups;
  capacities = capacities_of sheet.servers;
}

-- the plan says where the pins stand, and has the prices of the options. A server that is off has no price
pub record IsWritten (sheet : SheetParts) (used : ℕ → ℕ → ℕ) (price : ℕ → ℕ) (plan : PlanParts) : Type 0 where
  pub version : plan.version ≡ sheet.version
  pub servers : servers_of plan.servers ≡ sheet.servers
  pub prices : (s : ℕ) → s < length sheet.servers → price_at plan.servers s ≡ (if is_usable sheet.servers s then price (suc s) else 0)
  pub rows : plan.rows ≡ rows_of (network_of sheet) used

-- all pins stand at options that are cheapest at the prices, and no option has more of them than room
pub record IsRepaired (network : NetworkParts) (used : ℕ → ℕ → ℕ) (price load : ℕ → ℕ) : Type 0 where
  pub state : IsState network used price load
  pub within : (o : ℕ) → o < options network → load o ≤ capacity network o

-- what is written of a repaired state is a plan, and accepted for its sheet
pub record IsAccepted (sheet : SheetParts) (plan : PlanParts) : Type 0 where
  pub lawful : IsPlan plan
  pub accepted : verdict sheet plan ≡ Ok (rows_score plan.rows)

abbrev pub PlansAreAccepted : Type 0
PlansAreAccepted = (sheet : SheetParts) (used : ℕ → ℕ → ℕ) (price load : ℕ → ℕ) (plan : PlanParts) → IsSheet sheet
    → IsRepaired (network_of sheet) used price load → IsWritten sheet used price plan → IsAccepted sheet plan
