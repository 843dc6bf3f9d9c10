use Rattle.std.proofs.Common.{◌≡◌, inl, inr, subst, sym, ◌∙◌, arith}
use Rattle.std.proofs.lemmas.Bool.{cases_eq}
use Rattle.flow_planner_net.specs.Networks.{size, count}
use Rattle.flow_planner_net.specs.States.{used_of, at}
use Rattle.flow_planner.specs.Fillings.{placed_of}
use Rattle.flow_planner.proofs.FillSteps.{state_from}
use Rattle.flow_planner.proofs.placing.start.Goals as goal

pub loop-group-init : goal.loop-group-init
loop-group-init c =
    let made = c.seat_all.ensures in
    record {
      roomy = made.roomy;
      filling = made.filling;
      done = λ g below. absurd (omega arith);
      rest = λ g above within. made.placed g within;
    }

pub place-requires : goal.place-requires
place-requires c =
    let here = c.loop-group in
    let within = c.size-group-end.ensures.exact in
    record {
      roomy = here.invariant.roomy;
      filling = here.invariant.filling;
      group = omega arith;
      groups = c.requires.groups;
      placed = here.invariant.rest here.group (omega arith) (omega arith);
    }

pub loop-group-preserved : goal.loop-group-preserved
loop-group-preserved c =
    let network = c.args.network.now in
    let here = c.loop-group in
    let within = c.size-group-end.ensures.exact in
    let made = c.place.ensures in
    record {
      roomy = made.roomy;
      filling = made.filling;
      done = λ g below.
          elim (cases_eq g here.group) [
            | inl same ↦ subst (λ g. placed_of network (used_of (size network) c.place.new.counts) g ≡ count network g) (sym same) made.placed
            | inr other ↦ made.others g (omega arith) other ∙ here.invariant.done g (omega arith)
          ];
      rest = λ g above inside. omega (arith, made.others g inside (omega arith), here.invariant.rest g (omega arith) inside);
    }

pub returns : goal.returns
returns c =
    let network = c.args.network.now in
    let here = c.loop-group in
    let all = c.size-group-end.ensures.exact in
    record {
      roomy = here.invariant.roomy;
      state = state_from network (used_of (size network) here.counts) (at here.loads) here.invariant.filling (λ g within. here.invariant.done g (omega arith));
    }
