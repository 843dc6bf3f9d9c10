-- The servers of a plan as those of a farm.
use Rattle.std.specs.Prelude.{ℕ, Bool, false, is_some, List, map, slice_get, unwrap_or}
use Rattle.std.specs.Option.{option_map_or}
use Rattle.dual_cert_plan.specs.declared.server.PricedServer.{PricedServer}
use Rattle.dual_cert_plan.specs.Plans.{PlanParts}
use Rattle.pin_set.specs.declared.view.ViewServer.{ViewServer}

-- the plan's server as one of a farm: a server that is off has no room
abbrev pub farm_server : PricedServer → ViewServer
farm_server priced = record { name = priced.server.name; capacity = unwrap_or priced.server.capacity 0 }

-- the plan's servers, in its order
abbrev pub farm_servers : PlanParts → List ViewServer
farm_servers plan = map farm_server plan.servers

-- the plan's server isn't off
abbrev pub is_on : PricedServer → Bool
is_on priced = is_some priced.server.capacity

-- there is such a server at this place
unfoldable pub is_on_at : List PricedServer → ℕ → Bool
is_on_at servers at = option_map_or is_on (slice_get servers at) false
