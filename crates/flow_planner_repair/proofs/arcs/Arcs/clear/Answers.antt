use Rattle.std.proofs.Common.{◌≡◌, None, true, false, length, ap, sym, subst, ◌∙◌, inl, inr, arith}
use Rattle.std.proofs.lemmas.Bool.{cases_eq, false≢true}
use Rattle.flow_planner_net.proofs.Tables.{place-lt}
use Rattle.flow_planner_repair.specs.LeastArcs.{least_of, is_fresh}
use Rattle.flow_planner_repair.proofs.arcs.Arcs.clear.Goals as goal
use Rattle.flow_planner_repair.proofs.arcs.Arcs.clear.Goals.{then-is_stale, else-is_stale}

pub is_stale-requires : goal.is_stale-requires
is_stale-requires c =
    let here = c.loop-target in
    omega (arith, ap length here.invariant.fresh, c.requires.marks, place-lt c.args.width c.args.width c.args.source here.target c.requires.source (omega arith))

pub drop_arc-requires : goal.drop_arc-requires
drop_arc-requires c =
    let here = c.loop-target in
    record {
      target = omega arith;
      within = omega (arith, here.invariant.pairs, place-lt c.args.width c.args.width c.args.source here.target c.requires.source (omega arith));
    }

pub loop-target-preserved : goal.loop-target-preserved
loop-target-preserved c =
    let width = c.args.width in
    let source = c.args.source in
    let here = c.loop-target in
    let target = here.target in
    elim c.if-is_stale.branch [
      | then-is_stale w ↦
          let made = w.drop_arc.ensures in
          let stale : is_fresh width c.args.self.now.fresh source target ≡ false =
          subst (λ fresh. is_fresh width fresh source target ≡ false) here.invariant.fresh (c.is_stale.ensures.stale w.if-is_stale.true) in
          rw w.self-is (record {
            pairs = made.pairs ∙ here.invariant.pairs;
            none = λ k below is.
                elim (cases_eq k target) [
                  | inl same ↦ subst (λ k. least_of width w.drop_arc.new.self.least source k ≡ None) (sym same) made.dropped.here
                  | inr other ↦ made.dropped.other_targets source k (omega arith) other ∙ here.invariant.none k (omega arith) is
                ];
            known = λ k within is.
                elim (cases_eq k target) [
                  | inl same ↦ absurd (false≢true (sym stale ∙ subst (λ k. is_fresh width c.args.self.now.fresh source k ≡ true) same is))
                  | inr other ↦ made.dropped.other_targets source k within other ∙ here.invariant.known k within is
                ];
            others = λ o k within ne. made.dropped.other_options o k within ne ∙ here.invariant.others o k within ne;
            fresh = made.fresh ∙ here.invariant.fresh;
            looks = made.looks ∙ here.invariant.looks;
          })
      | else-is_stale w ↦
          let right : is_fresh width c.args.self.now.fresh source target ≡ true =
          subst (λ fresh. is_fresh width fresh source target ≡ true) here.invariant.fresh (c.is_stale.ensures.fresh w.if-is_stale.false) in
          rw w.self-is (record {
            pairs = here.invariant.pairs;
            none = λ k below is.
                elim (cases_eq k target) [
                  | inl same ↦ absurd (false≢true (sym (subst (λ k. is_fresh width c.args.self.now.fresh source k ≡ false) same is) ∙ right))
                  | inr other ↦ here.invariant.none k (omega arith) is
                ];
            known = here.invariant.known;
            others = here.invariant.others;
            fresh = here.invariant.fresh;
            looks = here.invariant.looks;
          })
    ]
