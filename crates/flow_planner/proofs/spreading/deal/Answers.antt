use Rattle.std.proofs.Common.{refl, ◌∙◌, arith}
use Rattle.flow_planner.proofs.spreading.deal.Goals as goal

pub loop-left-init : goal.loop-left-init
loop-left-init c = record {
  roomy = c.requires.roomy;
  filling = c.requires.filling;
  placed = refl;
  others = λ g within ne. refl;
}

pub returns-then-share-eq0 : goal.returns-then-share-eq0
returns-then-share-eq0 c =
    let here = c.loop-left in
    record {
      roomy = here.invariant.roomy;
      filling = here.invariant.filling;
      placed = here.invariant.placed;
      others = here.invariant.others;
    }

pub put-requires : goal.put-requires
put-requires c =
    let here = c.loop-left in
    record {
      roomy = here.invariant.roomy;
      filling = here.invariant.filling;
      group = c.requires.group;
      option = c.emptiest-option.ensures.there;
      home = λ some. c.emptiest-option.ensures;
      few = omega (arith, here.invariant.placed, c.requires.few, c.min-pins.ensures);
    }

pub overflow_sub-left : goal.overflow_sub-left
overflow_sub-left c = omega (arith, c.min-pins.ensures)

pub loop-left-preserved : goal.loop-left-preserved
loop-left-preserved c =
    let here = c.loop-left in
    let made = c.put.ensures in
    record {
      roomy = made.roomy;
      filling = made.filling;
      placed = omega (arith, made.placed, here.invariant.placed, c.min-pins.ensures);
      others = λ g within ne. made.others g within ne ∙ here.invariant.others g within ne;
    }

pub loop-left-smaller : goal.loop-left-smaller
loop-left-smaller c = omega (arith, c.min-pins.ensures, c.loop-left-test.true, c.if-share-eq0.false)

pub returns : goal.returns
returns c =
    let here = c.loop-left in
    record {
      roomy = here.invariant.roomy;
      filling = here.invariant.filling;
      placed = omega (arith, here.invariant.placed, c.loop-left-test.false);
      others = here.invariant.others;
    }
