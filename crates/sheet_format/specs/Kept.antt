-- What the reading of a text keeps. No public clause cites this module.
use Rattle.std.specs.Prelude.{◌≡◌, ℕ, ◌^◌, ◌≤◌, Option, List, length, sum_by, All}
use Rattle.std.specs.Option.{ForSome}
use Rattle.lb_types.specs.declared.limits.TheConstants.{MAX_PINS, MAX_SERVERS}
use Rattle.lb_types_pins.specs.declared.kind.Group.{Group}
use Rattle.dual_cert_plan.specs.declared.server.PricedServer.{PricedServer}
use Rattle.dual_cert_plan.specs.Plans.{servers_of}
use Rattle.dual_cert_plan.specs.Sheets.{AreServers, IsKind}
use Rattle.dual_cert_text.specs.ServerLines.{AreDistinct}
use Rattle.dual_cert_sheet.specs.SheetTexts.{at_no_price}

-- lawful servers at no price, groups of lawful kinds, and the pins of the groups
pub record IsKept (version : Option ℕ) (servers : List PricedServer) (groups : List Group) (count : ℕ) : Type 0 where
  pub early : ForSome version (λ v. v ≤ 2 ^ 63)
  pub few : length servers ≤ MAX_SERVERS
  pub distinct : AreDistinct servers
  pub free : at_no_price (servers_of servers) ≡ servers
  pub lawful : AreServers (servers_of servers)
  pub kinds : All (λ g. IsKind (servers_of servers) g.kind) groups
  pub sum : count ≡ sum_by (λ g. g.count) groups
  pub small : count ≤ MAX_PINS
