-- When two servers, sheets or plans are equal: where each part of the one is that part of the other.
use Rattle.std.specs.Prelude.{Bool, nat_eq}
use Rattle.std.specs.Ordering.{on, eq_of_both}
use Rattle.std.specs.Option.{option_eq}
use Rattle.std.specs.Cmp.Lexicographic.{pointwise}
use Rattle.lb_types_pins.specs.declared.kind.PinKind.{PinKind}
use Rattle.lb_types_pins.specs.declared.kind.Group.{Group}
use Rattle.lb_types_pins.specs.declared.kind.Row.{Row}
use Rattle.dual_cert_plan.specs.declared.server.Server.{Server}
use Rattle.dual_cert_plan.specs.declared.server.PricedServer.{PricedServer}
use Rattle.dual_cert_plan.specs.Sheets.{SheetParts}
use Rattle.dual_cert_plan.specs.Plans.{PlanParts}

abbrev pub equal_servers : Server → Server → Bool
equal_servers = eq_of_both (on (λ s. s.name) (pointwise nat_eq)) (on (λ s. s.capacity) (option_eq nat_eq))

abbrev pub equal_priced : PricedServer → PricedServer → Bool
equal_priced = eq_of_both (on (λ p. p.server) equal_servers) (on (λ p. p.price) nat_eq)

abbrev pub equal_kinds : PinKind → PinKind → Bool
equal_kinds =
    eq_of_both (eq_of_both (on (λ k. k.place) (option_eq nat_eq)) (on (λ k. k.permitted) nat_eq)) (on (λ k. k.cost) nat_eq)

abbrev pub equal_groups : Group → Group → Bool
equal_groups = eq_of_both (on (λ g. g.kind) equal_kinds) (on (λ g. g.count) nat_eq)

abbrev pub equal_rows : Row → Row → Bool
equal_rows =
    eq_of_both (eq_of_both (on (λ r. r.kind) equal_kinds) (on (λ r. r.new_place) (option_eq nat_eq))) (on (λ r. r.count) nat_eq)

abbrev pub equal_sheets : SheetParts → SheetParts → Bool
equal_sheets =
    eq_of_both (eq_of_both (on (λ s. s.version) nat_eq) (on (λ s. s.servers) (pointwise equal_servers)))
    (on (λ s. s.groups) (pointwise equal_groups))

abbrev pub equal_plans : PlanParts → PlanParts → Bool
equal_plans =
    eq_of_both (eq_of_both (on (λ p. p.version) nat_eq) (on (λ p. p.servers) (pointwise equal_priced)))
    (on (λ p. p.rows) (pointwise equal_rows))
