-- What is written of a repaired state is accepted for the sheet that it speaks of.
use Rattle.std.proofs.Common.{◌≡◌, ℕ, suc, ◌+◌, ◌*◌, ◌≤◌, List, length, refl, sym, ap, ◌∙◌, subst, arith}
use Rattle.std.specs.Prelude.{IsOk}
use Rattle.std.specs.List.{sum_by}
use Rattle.std.proofs.Math.Nat.{mul-le-mul_left}
use Rattle.lb_types_pins.specs.declared.kind.Group.{Group}
use Rattle.lb_types_pins.specs.declared.kind.Row.{Row}
use Rattle.std.proofs.lemmas.Nat.{mul-le}
use Rattle.dual_cert_plan.specs.declared.server.Server.{Server}
use Rattle.dual_cert_plan.specs.declared.server.PricedServer.{PricedServer}
use Rattle.dual_cert_plan.specs.Sheets.{SheetParts, IsSheet}
use Rattle.dual_cert_plan.specs.Plans.{PlanParts, plan_of_parts, servers_of, groups_of, own_sheet}
use Rattle.cert_check.specs.Verdict.{IsMadeFor, verdict}
use Rattle.cert_check.proofs.Means.{ok-means}
use Rattle.pin_set.specs.Costs.{sum_to}
use Rattle.flow_planner_net.specs.Networks.{NetworkParts, size, count, no_group}
use Rattle.flow_planner_net.specs.States.{used_of}
use Rattle.flow_planner_net.proofs.Sums.{sum_to-list}
use Rattle.flow_planner_repair.specs.Repairs.{most_looks}
use Rattle.flow_planner_net.specs.RowLists.{rows_of}
use Rattle.flow_planner_law.specs.Accepted.{capacities_of, unplaced_cost_of, network_of, IsWritten, IsRepaired, IsAccepted}
use Rattle.flow_planner_law.proofs.Lawful.{options-of}
use Rattle.flow_planner_law.proofs.Accepting.{plans_are_accepted}
use Rattle.flow_planner.specs.Plannings.{priced_servers, planned_of, IsPlanned}
use Rattle.flow_planner.proofs.ServerLists.{servers-priced, price-priced}

-- the rows and the priced servers of a repaired state make an accepted plan
written-accepted : (sheet : SheetParts) (used : ℕ → ℕ → ℕ) (price load : ℕ → ℕ) (servers : List PricedServer) (rows : List Row) → IsSheet sheet
    → IsRepaired (network_of sheet) used price load → servers ≡ priced_servers price sheet.servers → rows ≡ rows_of (network_of sheet) used
    → IsAccepted sheet (plan_of_parts sheet.version servers rows)
written-accepted sheet used price load servers rows lawful repaired servers_are rows_are =
    let written : IsWritten sheet used price (plan_of_parts sheet.version servers rows) = record {
      version = refl;
      servers = rw servers_are (servers-priced price sheet.servers);
      prices = rw servers_are (price-priced price sheet.servers);
      rows = rows_are;
    } in
    plans_are_accepted sheet used price load (plan_of_parts sheet.version servers rows) lawful repaired written

-- the same for the parts as code has them
pub parts-accepted : (sheet : SheetParts) (network : NetworkParts) (counts : List ℕ) (price load : ℕ → ℕ) (version : ℕ) (servers : List PricedServer) (rows : List Row)
    → network ≡ network_of sheet → IsSheet sheet → IsRepaired network (used_of (size network) counts) price load → version ≡ sheet.version
    → servers ≡ priced_servers price sheet.servers → rows ≡ rows_of network (used_of (size network) counts)
    → IsAccepted sheet (plan_of_parts version servers rows)
parts-accepted sheet network counts price load version servers rows same lawful repaired version_is servers_are rows_are =
    let used = used_of (size (network_of sheet)) counts in
    let state : IsRepaired (network_of sheet) used price load =
    subst (λ (n : NetworkParts). IsRepaired n (used_of (size n) counts) price load) same repaired in
    let written = rows_are ∙ ap (λ (n : NetworkParts). rows_of n (used_of (size n) counts)) same in
    subst (λ v. IsAccepted sheet (plan_of_parts v servers rows)) (sym version_is)
    (written-accepted sheet used price load servers rows lawful state servers_are written)

abbrev network_with : ℕ → List Group → List ℕ → NetworkParts
network_with u groups capacities = record { unplaced_cost = u; groups = groups; capacities = capacities }

-- the network of a sheet's parts
pub network-is : (sheet : SheetParts) (u : ℕ) (groups : List Group) (capacities : List ℕ)
    → groups ≡ sheet.groups → u ≡ unplaced_cost_of groups → capacities ≡ capacities_of sheet.servers
    → network_with u groups capacities ≡ network_of sheet
network-is sheet u groups capacities groups_are cost_is capacities_are = rw (cost_is, groups_are, capacities_are) refl

sheet_with : ℕ → List Server → List Group → SheetParts
sheet_with version servers groups = record { version = version; servers = servers; groups = groups }

-- a plan that is made for a sheet of its version speaks of that sheet
own_sheet-is : (sheet : SheetParts) (plan : PlanParts) → plan.version ≡ sheet.version → IsMadeFor sheet plan → own_sheet plan ≡ sheet
unfolding own_sheet sheet_with
own_sheet-is sheet plan version made =
    let e : sheet_with plan.version (servers_of plan.servers) (groups_of plan.rows) ≡ sheet_with sheet.version sheet.servers sheet.groups =
    rw (version, made.servers, made.groups) refl in
    e

-- what is accepted for a sheet of its version is accepted for the sheet that it speaks of
pub planned-lawful : (sheet : SheetParts) (plan : PlanParts) (pushes looks : ℕ) → plan.version ≡ sheet.version → IsAccepted sheet plan → IsPlanned (planned_of plan pushes looks)
planned-lawful sheet plan pushes looks version known =
    let ok : IsOk (verdict sheet plan) = rw known.accepted refl in
    let made : IsMadeFor sheet plan = ((ok-means sheet plan known.lawful.new_places).0 ok).0 in
    let same : verdict (own_sheet plan) plan ≡ verdict sheet plan = ap (λ (own : SheetParts). verdict own plan) (own_sheet-is sheet plan version made) in
    record { accepted = same ∙ known.accepted }

-- the looks of one push, by servers and groups
looks-le : (servers groups : ℕ) → suc servers * ((groups + 1) * suc servers) ≤ (servers + 2) * (servers + 2) * (groups + 1)
looks-le servers groups =
    let first = mul-le (suc servers) (groups + 1) (servers + 2) (groups + 1) (omega arith) (omega arith) in
    let second = mul-le (suc servers * (groups + 1)) (suc servers) ((servers + 2) * (groups + 1)) (servers + 2) first (omega arith) in
    omega (arith, second)

-- all groups' pins
pub pins-are : (network : NetworkParts) → sum_to (size network) (count network) ≡ sum_by (λ (g : Group). g.count) network.groups
unfolding count
pins-are network = sum_to-list (λ (g : Group). g.count) no_group network.groups

-- the looks of so many pushes, by the sheet's servers and groups
pub all_looks-le : (sheet : SheetParts) (pushes : ℕ)
    → pushes * most_looks (network_of sheet) ≤ pushes * ((length sheet.servers + 2) * (length sheet.servers + 2) * (length sheet.groups + 1))
all_looks-le sheet pushes =
    let one : most_looks (network_of sheet) ≤ (length sheet.servers + 2) * (length sheet.servers + 2) * (length sheet.groups + 1) =
    rw (options-of sheet) (looks-le (length sheet.servers) (length sheet.groups)) in
    mul-le-mul_left pushes one
