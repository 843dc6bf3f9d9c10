use Rattle.std.proofs.Common.{refl, ◌∙◌, arith}
use Rattle.flow_planner_net.proofs.Tables.{place-lt}
use Rattle.flow_planner_repair.proofs.arcs.Arcs.keep.Goals as goal

pub loop-target-init : goal.loop-target-init
loop-target-init c = record { least = refl; looks = refl; marks = c.requires.marks; others = λ o k within ne. refl }

pub set_fresh-requires : goal.set_fresh-requires
set_fresh-requires c =
    let here = c.loop-target in
    record {
      target = omega arith;
      within = omega (arith, here.invariant.marks, place-lt c.args.width c.args.width c.args.source here.target c.requires.source (omega arith));
    }

pub loop-target-preserved : goal.loop-target-preserved
loop-target-preserved c =
    let here = c.loop-target in
    let made = c.set_fresh.ensures in
    record {
      least = made.least ∙ here.invariant.least;
      looks = made.looks ∙ here.invariant.looks;
      marks = made.marks ∙ here.invariant.marks;
      others = λ o k within ne. made.set.other_options o k within ne ∙ here.invariant.others o k within ne;
    }
