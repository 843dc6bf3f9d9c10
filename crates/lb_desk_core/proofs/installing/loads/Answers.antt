use Rattle.std.proofs.Common.{refl, arith}
use Rattle.std.proofs.lemmas.List.{get_or-replicate}
use Rattle.cert_check.proofs.Loads.{load_more-le}
use Rattle.lb_desk_core.proofs.installing.loads.Goals as goal

pub loop-row-init : goal.loop-row-init
loop-row-init c = (refl, λ s below. get_or-replicate 128 s 0 0 below)

pub overflow_add-loads : goal.overflow_add-loads
overflow_add-loads c =
    let row = c.row-item.result in
    let s = c.index.result in
    omega (arith, load_more-le c.args.rows.now c.loop-row.row-index row s (omega arith) c.row-item.is, c.loop-row.invariant.1 s c.index.ensures.below_limit)
