use Rattle.std.proofs.Common.{refl, arith}
use Rattle.pin_set.specs.declared.pin.Pin.{Pin}
use Rattle.pin_set.specs.declared.pin_count.PinCount.{PinCount}
use Rattle.pin_table_rows.proofs.Counted.{PinsCounted, all_pins_counted, one_more}
use Rattle.pin_table_rows.proofs.sheeted.are_pins_counted.Goals as goal

pub loop-pin-preserved : goal.loop-pin-preserved
loop-pin-preserved c =
    let pins = c.args.pins.now in
    let counts = c.args.counts.now in
    one_more (λ (p : Pin). PinsCounted pins counts p.place p.id.want p.cost) pins c.loop-pin.pin-index c.pin-item.result
    (omega arith) c.pin-item.is (rw c.one_of.ensures at (c.if-not-is_counted.ensures refl)) c.loop-pin.invariant

pub loop-count-preserved : goal.loop-count-preserved
loop-count-preserved c =
    let pins = c.args.pins.now in
    let counts = c.args.counts.now in (
      c.loop-count.invariant.0,
      one_more (λ (n : PinCount). PinsCounted pins counts n.place n.want n.cost) counts c.loop-count.count-index c.count-item.result
          (omega arith) c.count-item.is (c.if-not-is_counted-2.ensures refl) c.loop-count.invariant.1,
    )

pub returns : goal.returns
returns c = λ yes.
    all_pins_counted c.args.pins.now c.args.counts.now (λ k d below. c.loop-count.invariant.0 k d below)
    (λ k d below. c.loop-count.invariant.1 k d (omega arith))
