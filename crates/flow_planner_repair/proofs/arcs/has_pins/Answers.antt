use Rattle.std.proofs.Common.{get_or, ap, inl, inr, arith}
use Rattle.std.proofs.lemmas.Bool.{cases_eq}
use Rattle.std.proofs.lemmas.Nat.{le_or_l, le_or_r}
use Rattle.flow_planner_repair.proofs.arcs.has_pins.Goals as goal

pub loop-pins-preserved : goal.loop-pins-preserved
loop-pins-preserved c =
    let here = c.loop-pins in
    let pins = get_or c.args.counts.now here.pins-index 0 in
    λ k below.
    elim (cases_eq k here.pins-index) [
      | inl same ↦ omega (arith, ap (λ k. get_or c.args.counts.now k 0) same, le_or_r here.bits pins)
      | inr other ↦ omega (arith, here.invariant k (omega arith), le_or_l here.bits pins)
    ]
