-- What a plan that is being made keeps. No public clause cites this module.
use Rattle.std.specs.Prelude.{◌≡◌, ◌≢◌, ℕ, ◌-◌, ◌^◌, ◌<◌, ◌≤◌, Bool, true, None, List, length, slice_get, sum_by, All}
use Rattle.std.specs.Option.{ForSome, option_map_or}
use Rattle.lb_types.specs.declared.limits.TheConstants.{MAX_COST}
use Rattle.lb_types.specs.Servers.{has}
use Rattle.lb_types_pins.specs.declared.kind.PinKind.{PinKind}
use Rattle.lb_types_pins.specs.declared.kind.Row.{Row}
use Rattle.lb_types_pins.specs.Kinds.{row_before}
use Rattle.dual_cert_plan.specs.declared.server.Server.{Server}
use Rattle.dual_cert_plan.specs.declared.server.PricedServer.{PricedServer}
use Rattle.dual_cert_plan.specs.Plans.{IsPlan, plan_of_parts, servers_of}
use Rattle.dual_cert_plan.specs.Sheets.{is_usable}

-- it is a plan, the count of its pins is right, and pins may go to each of the usable servers
pub record IsDraft (servers : List PricedServer) (rows : List Row) (pins usable : ℕ) : Type 0 where
  pub lawful : IsPlan (plan_of_parts 0 servers rows)
  pub sum : pins ≡ sum_by (λ r. r.count) rows
  pub usable_ones : (s : ℕ) → has usable s ≡ true → is_usable (servers_of servers) s ≡ true

-- the price is one that the server may have
pub record MayCost (server : Server) (price : ℕ) : Type 0 where
  pub small : price < 2 ^ 40
  pub off : server.capacity ≡ None → price ≡ 0

-- no server has the name
abbrev pub IsNew : List PricedServer → List ℕ → Type 0
IsNew servers name = All (λ s. s.server.name ≢ name) servers

-- each server of the one set is in the other
abbrev pub IsWithin : ℕ → ℕ → Type 0
IsWithin set others = (s : ℕ) → has set s ≡ true → has others s ≡ true

-- a pin of the kind may stand in a plan of n servers, of which these are usable
pub record MayStand (n usable : ℕ) (kind : PinKind) : Type 0 where
  pub place : ForSome kind.place (λ server. server < n)
  pub permitted : IsWithin kind.permitted usable
  pub cost_from : 1 ≤ kind.cost
  pub cost_to : kind.cost ≤ MAX_COST

-- the row stands strictly behind the last one
abbrev pub comes_next : List Row → Row → Bool
comes_next rows row = option_map_or (λ last. row_before last row) (slice_get rows (length rows - 1)) true
