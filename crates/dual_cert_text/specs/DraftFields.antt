-- What a draft keeps beside what was read. No public clause cites this module.
use Rattle.std.specs.Prelude.{◌≡◌, ℕ, ◌≤◌, Bool, List, length, sum_by}
use Rattle.lb_types.specs.declared.limits.TheConstants.{MAX_PINS, MAX_SERVERS}
use Rattle.lb_types_pins.specs.declared.kind.Row.{Row}
use Rattle.dual_cert_plan.specs.declared.server.PricedServer.{PricedServer}
use Rattle.dual_cert_text.specs.PlanTexts.{needs_costs}
use Rattle.dual_cert_text.specs.ServerLines.{AreDistinct}

-- few servers with names of their own, and the count and the need of the rows as they are
pub record KeepsTotals (servers : List PricedServer) (rows : List Row) (count : ℕ) (costs : Bool) : Type 0 where
  pub few : length servers ≤ MAX_SERVERS
  pub distinct : AreDistinct servers
  pub sum : count ≡ sum_by (λ r. r.count) rows
  pub small : count ≤ MAX_PINS
  pub need : costs ≡ needs_costs rows
