-- What the rules of a backend say of a request: HAProxy Configuration Manual 2.8, `use-server`. `pin-cost` is this project's own.
use Rattle.std.specs.Prelude.{ℕ, List, map}
use Rattle.std.specs.List.{filter, find}
use Rattle.std.specs.Option.{option_map_or}
use Rattle.lb_acl.specs.declared.rules.UseServer.{UseServer}
use Rattle.lb_acl.specs.HeadView.{HeadView}
use Rattle.lb_acl.specs.PinCostView.{PinCostView}
use Rattle.lb_acl.specs.Conds.{cond_holds}

-- the servers of the rules that apply, in the rules' order
abbrev pub designated : HeadView → List UseServer → List ℕ
designated head rules = map (λ rule. rule.server) (filter (λ rule. cond_holds head rule.cond) rules)

-- the cost of the first rule that applies, or 1
abbrev pub pin_cost : HeadView → List PinCostView → ℕ
pin_cost head rules = option_map_or (λ rule. rule.cost) (find (λ rule. cond_holds head rule.cond) rules) 1
