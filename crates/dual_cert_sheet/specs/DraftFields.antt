-- What a draft keeps beside what was read. No public clause cites this module.
use Rattle.std.specs.Prelude.{◌≡◌, ℕ, ◌≤◌, Bool, List, length, sum_by}
use Rattle.lb_types.specs.declared.limits.TheConstants.{MAX_PINS, MAX_SERVERS}
use Rattle.lb_types_pins.specs.declared.kind.Group.{Group}
use Rattle.dual_cert_plan.specs.declared.server.PricedServer.{PricedServer}
use Rattle.dual_cert_plan.specs.Plans.{servers_of}
use Rattle.dual_cert_text.specs.ServerLines.{AreDistinct}
use Rattle.dual_cert_sheet.specs.SheetTexts.{at_no_price, needs_costs}

-- few servers with names of their own, at no price, and the count and the need of the groups as they are
pub record KeepsTotals (servers : List PricedServer) (groups : List Group) (count : ℕ) (costs : Bool) : Type 0 where
  pub few : length servers ≤ MAX_SERVERS
  pub distinct : AreDistinct servers
  pub free : at_no_price (servers_of servers) ≡ servers
  pub sum : count ≡ sum_by (λ g. g.count) groups
  pub small : count ≤ MAX_PINS
  pub need : costs ≡ needs_costs groups
