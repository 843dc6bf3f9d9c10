use Rattle.std.proofs.Common.{refl, arith}
use Rattle.lb_types_pins.specs.declared.kind.Row.{Row}
use Rattle.pin_set.specs.declared.pin_count.PinCount.{PinCount}
use Rattle.pin_groups.specs.Counts.{counted_kind}
use Rattle.pin_table_rows.proofs.Counted.{Counted, all_counted, one_more}
use Rattle.pin_table_rows.proofs.checked.are_counted.Goals as goal

pub loop-row-preserved : goal.loop-row-preserved
loop-row-preserved c =
    one_more (λ (r : Row). Counted c.args.usable c.args.rows.now c.args.counts.now r.kind) c.args.rows.now c.loop-row.row-index c.row-item.result
    (omega arith) c.row-item.is (c.if-not-is_counted.ensures refl) c.loop-row.invariant

pub loop-count-preserved : goal.loop-count-preserved
loop-count-preserved c =
    let counted = rw c.counted_kind.ensures at (c.if-not-is_counted-2.ensures refl) in (
      c.loop-count.invariant.0,
      one_more (λ (n : PinCount). Counted c.args.usable c.args.rows.now c.args.counts.now (counted_kind c.args.usable n)) c.args.counts.now c.loop-count.count-index
          c.count-item.result (omega arith) c.count-item.is counted c.loop-count.invariant.1,
    )

pub returns : goal.returns
returns c = λ yes.
    all_counted c.args.usable c.args.rows.now c.args.counts.now (λ k d below. c.loop-count.invariant.0 k d below)
    (λ k d below. c.loop-count.invariant.1 k d (omega arith))
