use Rattle.std.proofs.Common.{◌≡◌, ℕ, suc, ◌+◌, cond, sym, ap, ◌∙◌, arith}
use Rattle.std.specs.Option.{is_some}
use Rattle.dual_cert_plan.specs.declared.server.Server.{Server}
use Rattle.dual_cert_plan.specs.declared.server.PricedServer.{PricedServer}
use Rattle.flow_planner_net.specs.States.{at}
use Rattle.flow_planner_net.proofs.Tables.{at-read}
use Rattle.flow_planner.proofs.sheet_parts.priced_server.Goals as goal
use Rattle.flow_planner.proofs.sheet_parts.priced_server.Goals.{then-is_some, else-is_some}

abbrev with_price : Server → ℕ → PricedServer
with_price server price = record { server = server; price = price }

pub returns : goal.returns
returns c =
    let server = c.args.server.now in
    let prices = c.args.prices.now in
    let next : suc c.args.index ≡ c.args.index + 1 = omega arith in
    let price : c.if-is_some.price ≡ cond (is_some server.capacity) (at prices (suc c.args.index)) 0 =
    elim c.if-is_some.branch [
      | then-is_some w ↦
          let usable : is_some server.capacity ≡ c.is_some.result = sym c.is_some.ensures in
          rw (usable ∙ w.if-is_some.true) (w.price-is ∙ (at-read prices (c.args.index + 1) ∙ ap (at prices) (sym next)))
      | else-is_some w ↦
          let off : is_some server.capacity ≡ c.is_some.result = sym c.is_some.ensures in
          rw (off ∙ w.if-is_some.false) w.price-is
    ] in
    ap (with_price server) price
