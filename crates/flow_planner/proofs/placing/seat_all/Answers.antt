use Rattle.std.proofs.Common.{◌≡◌, ◌+◌, inl, inr, subst, sym, ◌∙◌, arith}
use Rattle.std.proofs.lemmas.Bool.{cases_eq}
use Rattle.cert_check_law.proofs.Sums.{sum_to-zero}
use Rattle.flow_planner_net.specs.Networks.{options, size, count}
use Rattle.flow_planner_net.specs.States.{used_of, at}
use Rattle.flow_planner.specs.Fillings.{placed_of, waiting}
use Rattle.flow_planner.proofs.FillSteps.{filling_none}
use Rattle.flow_planner.proofs.placing.seat_all.Goals as goal

pub loop-group-init : goal.loop-group-init
loop-group-init c =
    let network = c.args.network.now in
    let used = used_of (size network) c.args.counts.now in
    record {
      roomy = c.requires.roomy;
      filling = filling_none network used (at c.args.loads.now) c.requires.empty c.requires.idle;
      done = λ g below. absurd (omega arith);
      rest = λ g above within. sum_to-zero (options network) (λ o. used o g) (λ o inside. c.requires.empty o g inside within);
    }

pub seat-requires : goal.seat-requires
seat-requires c =
    let here = c.loop-group in
    let within = c.size-group-end.ensures.exact in
    record {
      roomy = here.invariant.roomy;
      filling = here.invariant.filling;
      group = omega arith;
      groups = c.requires.groups;
      none = here.invariant.rest here.group (omega arith) (omega arith);
    }

pub loop-group-preserved : goal.loop-group-preserved
loop-group-preserved c =
    let network = c.args.network.now in
    let here = c.loop-group in
    let within = c.size-group-end.ensures.exact in
    let made = c.seat.ensures in
    record {
      roomy = made.roomy;
      filling = made.filling;
      done = λ g below.
          elim (cases_eq g here.group) [
            | inl same ↦
                subst (λ g. placed_of network (used_of (size network) c.seat.new.counts) g + waiting network g ≡ count network g) (sym same) made.placed
            | inr other ↦ omega (arith, made.others g (omega arith) other, here.invariant.done g (omega arith))
          ];
      rest = λ g above inside. made.others g inside (omega arith) ∙ here.invariant.rest g (omega arith) inside;
    }

pub returns : goal.returns
returns c =
    let here = c.loop-group in
    let all = c.size-group-end.ensures.exact in
    record {
      roomy = here.invariant.roomy;
      filling = here.invariant.filling;
      placed = λ g within. here.invariant.done g (omega arith);
    }
