-- How large the numbers of a plan are, so that its sums fit into machine words. No public clause cites this module.
use Rattle.std.specs.Prelude.{◌^◌, ◌<◌, ◌≤◌, List, length, All}
use Rattle.lb_types.specs.declared.limits.TheConstants.{MAX_COST, MAX_PINS, MAX_SERVERS}
use Rattle.lb_types_pins.specs.declared.kind.Row.{Row}
use Rattle.dual_cert_plan.specs.declared.server.PricedServer.{PricedServer}
use Rattle.pin_set.specs.Rows.{rows_pins}

-- at most 2^24 pins, each of a cost of at most 1000
pub record AreFew (rows : List Row) : Type 0 where
  pub total : rows_pins rows ≤ MAX_PINS
  pub costs : All (λ r. r.kind.cost ≤ MAX_COST) rows

-- at most 128 servers, each of a price below 2^40
pub record ArePriced (servers : List PricedServer) : Type 0 where
  pub few : length servers ≤ MAX_SERVERS
  pub prices : All (λ s. s.price < 2 ^ 40) servers
