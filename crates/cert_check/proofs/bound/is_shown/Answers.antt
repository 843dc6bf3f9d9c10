use Rattle.std.proofs.Common.{◌≡◌, ◌+◌, length, arith, ap, ◌∙◌}
use Rattle.std.proofs.lemmas.Bool.{eqb-true, eq-eqb}
use Rattle.pin_set.specs.Rows.{rows_unplaced_cost, rows_cost, rows_least}
use Rattle.cert_check.specs.Verdict.{price_at}
use Rattle.cert_check.proofs.Bounds.{unplaced_cost-fits, cost-fits, least-fits}
use Rattle.cert_check.proofs.bound.is_shown.Goals as goal

pub unplaced_cost-unplaced_cost-requires : goal.unplaced_cost-unplaced_cost-requires
unplaced_cost-unplaced_cost-requires c = omega (arith, unplaced_cost-fits c.args.rows.now c.requires.few)

pub cost-requires-clause-high : goal.cost-requires-clause-high
cost-requires-clause-high c = omega (arith, unplaced_cost-fits c.args.rows.now c.requires.few)

pub cost-requires-clause-fits : goal.cost-requires-clause-fits
cost-requires-clause-fits c =
    let high = unplaced_cost-fits c.args.rows.now c.requires.few in
    omega (arith, cost-fits c.unplaced_cost-unplaced_cost.result c.args.rows.now c.requires.few (omega arith))

pub least_total-requires-clause-high : goal.least_total-requires-clause-high
least_total-requires-clause-high c = omega (arith, unplaced_cost-fits c.args.rows.now c.requires.few)

pub least_total-requires-clause-fits : goal.least_total-requires-clause-fits
least_total-requires-clause-fits c =
    let high = unplaced_cost-fits c.args.rows.now c.requires.few in
    let servers = c.args.servers.now in
    omega (arith, least-fits c.unplaced_cost-unplaced_cost.result (price_at servers) (length servers) c.args.rows.now c.requires.few (omega arith))

pub returns : goal.returns
returns c =
    let rows = c.args.rows.now in
    let servers = c.args.servers.now in
    let u = c.unplaced_cost-unplaced_cost.ensures in
    let cost : c.from-cost.result ≡ rows_cost (rows_unplaced_cost rows) rows =
    c.from-cost.ensures ∙ c.cost.ensures ∙ ap (λ k. rows_cost k rows) u in
    let least : c.from-least.result ≡ rows_least (rows_unplaced_cost rows) (price_at servers) (length servers) rows =
    c.from-least.ensures ∙ c.least_total.ensures ∙ ap (λ k. rows_least k (price_at servers) (length servers) rows) u in (
      λ same. let e = eqb-true (c.from-cost.result + c.worth.result) c.from-least.result same in omega arith,
      λ shown. eq-eqb (c.from-cost.result + c.worth.result) c.from-least.result (omega arith),
    )
