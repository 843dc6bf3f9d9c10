use Rattle.std.proofs.Common.{◌+◌, ◌<◌, ◌≤◌, refl, arith}
use Rattle.std.proofs.Math.Nat.{mul-le-mul_right}
use Rattle.flow_planner_net.specs.Networks.{size, capacity}
use Rattle.flow_planner_net.specs.States.{used_of, at}
use Rattle.flow_planner_net.proofs.Tables.{at-read}
use Rattle.flow_planner_repair.specs.Repairs.{excess, most_looks}
use Rattle.flow_planner_repair.proofs.RelieveSteps.{excess-le, excess-some}
use Rattle.flow_planner_repair.proofs.relieve.ease.Goals as goal

pub loop-loads-init : goal.loop-loads-init
loop-loads-init c = record {
  laid = c.requires.laid;
  state = c.requires.state;
  pushes = omega arith;
  fits = λ o within fits. fits;
  none = λ is. refl;
  looks = omega arith;
  looks_stay = omega arith;
}

pub relieve-requires : goal.relieve-requires
relieve-requires c =
    let network = c.args.network.now in
    let here = c.loop-loads in
    let over : capacity network c.args.start < at here.loads c.args.start = omega (arith, c.loop-loads-test.true, c.capacity.ensures, at-read here.loads c.args.start) in
    let some = excess-some network (at here.loads) c.args.start c.requires.start over in
    let within : here.pushes + 1 ≤ excess network (at c.args.loads.now) = omega (arith, here.invariant.pushes) in
    record {
      laid = here.invariant.laid;
      state = here.invariant.state;
      start = c.requires.start;
      over = over;
      few = omega (arith, here.invariant.looks, c.requires.few, mul-le-mul_right (most_looks network) within);
    }

pub overflow_add-pushes : goal.overflow_add-pushes
overflow_add-pushes c =
    let network = c.args.network.now in
    let here = c.loop-loads in
    omega (arith, here.invariant.pushes, excess-le network c.requires.laid.lawful (used_of (size network) c.args.counts.now) (at c.args.prices.now) (at c.args.loads.now) c.requires.state)

pub loop-loads-preserved : goal.loop-loads-preserved
loop-loads-preserved c =
    let here = c.loop-loads in
    record {
      laid = c.relieve.ensures.laid;
      state = c.relieve.ensures.state;
      pushes = omega (arith, c.relieve.ensures.less, here.invariant.pushes);
      fits = λ o within fits. c.relieve.ensures.fits o within (here.invariant.fits o within fits);
      none = λ is. absurd (omega arith);
      looks = omega (arith, c.relieve.ensures.looks, here.invariant.looks);
      looks_stay = omega (arith, c.relieve.ensures.looks_stay, here.invariant.looks_stay);
    }

pub loop-loads-smaller : goal.loop-loads-smaller
loop-loads-smaller c = omega (arith, c.relieve.ensures.less)

pub returns : goal.returns
returns c =
    let here = c.loop-loads in
    record {
      laid = here.invariant.laid;
      state = here.invariant.state;
      pushes = here.invariant.pushes;
      fits = here.invariant.fits;
      here = omega (arith, c.loop-loads-test.false, c.capacity.ensures, at-read here.loads c.args.start);
      none = here.invariant.none;
      looks = here.invariant.looks;
      looks_stay = here.invariant.looks_stay;
    }
