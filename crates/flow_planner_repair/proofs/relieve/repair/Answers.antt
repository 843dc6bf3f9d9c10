use Rattle.std.proofs.Common.{◌≤◌, refl, arith, inl, inr, subst, sym, ◌∙◌}
use Rattle.std.proofs.Math.Nat.{mul-le-mul_right}
use Rattle.std.proofs.lemmas.Bool.{cases_eq}
use Rattle.flow_planner_net.specs.Networks.{size, capacity}
use Rattle.flow_planner_net.specs.States.{used_of, at}
use Rattle.flow_planner_repair.specs.Repairs.{most_looks}
use Rattle.flow_planner_repair.proofs.RelieveSteps.{excess-le}
use Rattle.flow_planner_repair.proofs.relieve.repair.Goals as goal

pub loop-start-init : goal.loop-start-init
loop-start-init c = record {
  laid = c.requires.laid;
  state = c.requires.state;
  pushes = omega arith;
  within = λ o below. absurd (omega arith);
  none = λ is. refl;
  looks = omega arith;
  looks_stay = omega arith;
}

pub ease-pushes-requires : goal.ease-pushes-requires
ease-pushes-requires c =
    let network = c.args.network.now in
    let here = c.loop-start in
    record {
      laid = here.invariant.laid;
      state = here.invariant.state;
      start = omega (arith, c.options-start-end.ensures.exact);
      few = omega (arith, here.invariant.looks, c.requires.few, mul-le-mul_right (most_looks network) here.invariant.pushes);
    }

pub overflow_add-pushes : goal.overflow_add-pushes
overflow_add-pushes c =
    let network = c.args.network.now in
    let here = c.loop-start in
    omega (arith, here.invariant.pushes, c.ease-pushes.ensures.pushes, excess-le network c.requires.laid.lawful (used_of (size network) c.args.counts.now) (at c.args.prices.now) (at c.args.loads.now) c.requires.state)

pub loop-start-preserved : goal.loop-start-preserved
loop-start-preserved c =
    let network = c.args.network.now in
    let here = c.loop-start in
    record {
      laid = c.ease-pushes.ensures.laid;
      state = c.ease-pushes.ensures.state;
      pushes = omega (arith, c.ease-pushes.ensures.pushes, here.invariant.pushes);
      within = λ o below.
          elim (cases_eq o here.start) [
            | inl same ↦ subst (λ o. at c.ease-pushes.new.loads o ≤ capacity network o) (sym same) c.ease-pushes.ensures.here
            | inr other ↦ c.ease-pushes.ensures.fits o (omega (arith, c.options-start-end.ensures.exact)) (here.invariant.within o (omega arith))
          ];
      none = λ is. c.ease-pushes.ensures.none (omega arith) ∙ here.invariant.none (omega arith);
      looks = omega (arith, c.ease-pushes.ensures.looks, here.invariant.looks);
      looks_stay = omega (arith, c.ease-pushes.ensures.looks_stay, here.invariant.looks_stay);
    }

pub returns : goal.returns
returns c =
    let here = c.loop-start in
    record {
      laid = here.invariant.laid;
      state = here.invariant.state;
      within = λ o within. here.invariant.within o (omega (arith, c.options-start-end.ensures.exact));
      pushes = omega (arith, here.invariant.pushes);
      none = here.invariant.none;
      looks = here.invariant.looks;
      looks_stay = here.invariant.looks_stay;
    }
