-- What the planner gives.
use Rattle.std.specs.Prelude.{◌≡◌, ℕ, suc, Ok, is_some, List, map, if◌then◌else◌}
use Rattle.std.specs.List.{enumerate_from}
use Rattle.pin_set.specs.Rows.{rows_score}
use Rattle.dual_cert_plan.specs.declared.server.Server.{Server}
use Rattle.dual_cert_plan.specs.declared.server.PricedServer.{PricedServer}
use Rattle.dual_cert_plan.specs.Plans.{PlanParts, own_sheet}
use Rattle.cert_check.specs.Verdict.{verdict}

-- a plan, and how many pushes and looks it took to find it
pub record PlannedParts : Type 0 where
  pub plan : PlanParts
  pub pushes : ℕ
  pub looks : ℕ

abbrev pub planned_of : PlanParts → ℕ → ℕ → PlannedParts
planned_of plan pushes looks = record { plan = plan; pushes = pushes; looks = looks }

-- a checker accepts the plan for the sheet that it speaks of
pub record IsPlanned (planned : PlannedParts) : Type 0 where
  pub accepted : verdict (own_sheet planned.plan) planned.plan ≡ Ok (rows_score planned.plan.rows)

-- the server of this number with the price of its option; one that is off has none
abbrev pub priced_server : (ℕ → ℕ) → ℕ × Server → PricedServer
priced_server price numbered =
    record { server = numbered.1; price = if is_some numbered.1.capacity then price (suc numbered.0) else 0 }

abbrev pub priced_servers : (ℕ → ℕ) → List Server → List PricedServer
priced_servers price servers = map (priced_server price) (enumerate_from 0 servers)
