use Rattle.std.proofs.Common.{◌≡◌, false, sym, subst, ◌∙◌, inl, inr, arith, length-set}
use Rattle.std.proofs.lemmas.Bool.{cases_eq, false≢true}
use Rattle.flow_planner_net.proofs.Tables.{place-lt}
use Rattle.flow_planner_repair.specs.LeastArcs.{is_fresh}
use Rattle.flow_planner_repair.proofs.ArcSteps.{listed-more, listed-here, options-more}
use Rattle.flow_planner_repair.proofs.arcs.Arcs.stale_targets.Goals as goal
use Rattle.flow_planner_repair.proofs.arcs.Arcs.stale_targets.Goals.{then-is_stale, else-is_stale}

pub is_stale-requires : goal.is_stale-requires
is_stale-requires c =
    omega (arith, c.requires.marks, place-lt c.args.width c.args.width c.args.source c.loop-target.target c.requires.source (omega arith))

pub loop-target-preserved : goal.loop-target-preserved
loop-target-preserved c =
    let width = c.args.width in
    let source = c.args.source in
    let fresh = c.args.self.now.fresh in
    let here = c.loop-target in
    let target = here.target in
    elim c.if-is_stale.branch [
      | then-is_stale w ↦
          rw (w.targets-is, w.stale-is) (record {
            len = length-set here.targets here.stale target ∙ here.invariant.len;
            few = omega (arith, here.invariant.few);
            options = options-more width here.targets here.stale target (omega (arith, here.invariant.len, here.invariant.few, c.requires.room)) (omega arith) here.invariant.options;
            listed = λ k below is.
                elim (cases_eq k target) [
                  | inl same ↦ rw same (listed-here here.targets here.stale target (omega (arith, here.invariant.len, here.invariant.few, c.requires.room)))
                  | inr other ↦
                      listed-more here.targets here.stale target k (omega (arith, here.invariant.len, here.invariant.few, c.requires.room)) (here.invariant.listed k (omega arith) is)
                ];
          })
      | else-is_stale w ↦
          let right = c.is_stale.ensures.fresh w.if-is_stale.false in
          rw (w.targets-is, w.stale-is) (record {
            len = here.invariant.len;
            few = omega (arith, here.invariant.few);
            options = here.invariant.options;
            listed = λ k below is.
                elim (cases_eq k target) [
                  | inl same ↦ absurd (false≢true (sym (subst (λ k. is_fresh width fresh source k ≡ false) same is) ∙ right))
                  | inr other ↦ here.invariant.listed k (omega arith) is
                ];
          })
    ]
