use Rattle.std.proofs.Common.{◌≡◌, arith, sym, refl, ap, ◌∙◌}
use Rattle.lb_types.specs.Servers.{has}
use Rattle.cert_check.specs.Verdict.{price_at}
use Rattle.cert_check_law.proofs.Sums.{least-none, least_more}
use Rattle.cert_check.proofs.Steps.{price_at-read}
use Rattle.cert_check.proofs.bound.least.Goals as goal
use Rattle.cert_check.proofs.bound.least.Goals.{then-has, else-has}

pub loop-i-init : goal.loop-i-init
loop-i-init c = c.option_cost-least.ensures.exact ∙ sym (least-none c.args.unplaced_cost (price_at c.args.servers.now) c.args.kind.now)

pub loop-i-preserved : goal.loop-i-preserved
loop-i-preserved c =
    let i = c.loop-i.i in
    let kind = c.args.kind.now in
    let more = least_more c.args.unplaced_cost (price_at c.args.servers.now) i kind in
    let price = price_at-read c.args.servers.now i c.index-servers-i.result (omega arith) c.index-servers-i.is in
    let here : has kind.permitted i ≡ c.has.result = ap (has kind.permitted) (sym c.new-id.ensures) ∙ sym c.has.ensures in
    elim c.if-has.branch [
      | then-has w ↦ rw (more, here, w.if-has.true, price, w.least-is, w.min-least.ensures, c.loop-i.invariant, w.option_cost.ensures.exact, c.new-id.ensures) refl
      | else-has w ↦ rw (more, here, w.if-has.false, w.least-is) c.loop-i.invariant
    ]
