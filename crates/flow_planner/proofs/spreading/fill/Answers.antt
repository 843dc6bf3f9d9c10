use Rattle.std.proofs.Common.{refl, ◌∙◌, arith}
use Rattle.flow_planner.proofs.spreading.fill.Goals as goal
use Rattle.flow_planner.proofs.spreading.fill.Goals.{then-pins-gt0, else-pins-gt0}

pub loop-option-init : goal.loop-option-init
loop-option-init c = record {
  roomy = c.requires.roomy;
  filling = c.requires.filling;
  placed = refl;
  others = λ g within ne. refl;
}

pub returns-then-left-eq0 : goal.returns-then-left-eq0
returns-then-left-eq0 c =
    let here = c.loop-option in
    record {
      roomy = here.invariant.roomy;
      filling = here.invariant.filling;
      placed = omega (arith, here.invariant.placed, c.if-left-eq0.true);
      others = here.invariant.others;
    }

pub put-requires : goal.put-requires
put-requires c =
    let here = c.loop-option in
    record {
      roomy = here.invariant.roomy;
      filling = here.invariant.filling;
      group = c.requires.group;
      option = omega (arith, c.options-option-end.ensures.exact);
      home = λ some. c.room_for-room.ensures (omega (arith, c.min-pins.ensures));
      few = omega (arith, here.invariant.placed, c.requires.few, c.min-pins.ensures);
    }

pub overflow_sub-left : goal.overflow_sub-left
overflow_sub-left c = omega (arith, c.min-pins.ensures)

pub loop-option-preserved : goal.loop-option-preserved
loop-option-preserved c =
    let here = c.loop-option in
    elim c.if-pins-gt0.branch [
      | then-pins-gt0 w ↦
          let made = w.put.ensures in
          rw (w.counts-is, w.loads-is, w.left-is) (record {
            roomy = made.roomy;
            filling = made.filling;
            placed = omega (arith, made.placed, here.invariant.placed, c.min-pins.ensures);
            others = λ g within ne. made.others g within ne ∙ here.invariant.others g within ne;
          })
      | else-pins-gt0 w ↦ rw (w.counts-is, w.loads-is, w.left-is) here.invariant
    ]

pub returns : goal.returns
returns c =
    let here = c.loop-option in
    record {
      roomy = here.invariant.roomy;
      filling = here.invariant.filling;
      placed = here.invariant.placed;
      others = here.invariant.others;
    }
