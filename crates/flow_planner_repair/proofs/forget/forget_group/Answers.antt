use Rattle.std.proofs.Common.{◌≡◌, Some, false, length, refl, ap, sym, subst, ◌∙◌, inl, inr, arith}
use Rattle.std.proofs.lemmas.Bool.{cases_eq, false≢true}
use Rattle.flow_planner_net.specs.Networks.{options}
use Rattle.flow_planner_net.proofs.Tables.{place-lt}
use Rattle.flow_planner_repair.specs.LeastArcs.{IsMarked, least_of, is_fresh}
use Rattle.flow_planner_repair.proofs.ForgetSteps.{fewer_same, fewer_marked}
use Rattle.flow_planner_repair.proofs.forget.forget_group.Goals as goal
use Rattle.flow_planner_repair.proofs.forget.forget_group.Goals.{then-is_of, else-is_of}

pub loop-target-init : goal.loop-target-init
loop-target-init c = record { fewer = fewer_same c.args.network.now c.args.arcs.now; looks = refl; stale = λ k below. absurd (omega arith) }

pub is_of-requires : goal.is_of-requires
is_of-requires c =
    let network = c.args.network.now in
    let here = c.loop-target in
    let all = c.options-width.ensures.exact in
    rw all (omega (arith, ap length here.invariant.fewer.least, c.requires.arcs.pairs, place-lt (options network) (options network) c.args.option here.target c.requires.option (omega arith)))

pub set_fresh-requires : goal.set_fresh-requires
set_fresh-requires c =
    let network = c.args.network.now in
    let here = c.loop-target in
    let all = c.options-width.ensures.exact in
    rw all (record {
      target = omega arith;
      within = omega (arith, here.invariant.fewer.marks, c.requires.arcs.marks, place-lt (options network) (options network) c.args.option here.target c.requires.option (omega arith));
    })

pub loop-target-preserved : goal.loop-target-preserved
loop-target-preserved c =
    let network = c.args.network.now in
    let option = c.args.option in
    let here = c.loop-target in
    let target = here.target in
    let all = c.options-width.ensures.exact in
    let old = c.args.arcs.now.least in
    elim c.if-is_of.branch [
      | then-is_of w ↦
          let made = w.set_fresh.ensures in
          let set = subst (λ n. IsMarked n here.arcs.fresh w.set_fresh.new.self.fresh option target false) all made.set in
          rw w.arcs-is (record {
            fewer = fewer_marked network c.args.arcs.now here.arcs w.set_fresh.new.self option target here.invariant.fewer made.least made.marks set;
            looks = made.looks ∙ here.invariant.looks;
            stale = λ k below within is.
                elim (cases_eq k target) [
                  | inl same ↦ subst (λ k. is_fresh (options network) w.set_fresh.new.self.fresh option k ≡ false) (sym same) set.here
                  | inr other ↦ set.other_targets option k within other ∙ here.invariant.stale k (omega arith) within is
                ];
          })
      | else-is_of w ↦
          rw w.arcs-is (record {
            fewer = here.invariant.fewer;
            looks = here.invariant.looks;
            stale = λ k below within is.
                elim (cases_eq k target) [
                  | inl same ↦
                      let known = subst (λ k. least_of (options network) old option k ≡ Some c.args.group) same is in
                      let now = subst (λ least. least_of (options network) least option target ≡ Some c.args.group) (sym here.invariant.fewer.least) known in
                      let yes = c.is_of.ensures (subst (λ n. least_of n here.arcs.least option target ≡ Some c.args.group) (sym all) now) in
                      absurd (false≢true (sym w.if-is_of.false ∙ yes))
                  | inr other ↦ here.invariant.stale k (omega arith) within is
                ];
          })
    ]

pub returns : goal.returns
returns c =
    let here = c.loop-target in
    let all = c.options-width.ensures.exact in
    record { fewer = here.invariant.fewer; looks = here.invariant.looks; stale = λ k within is. here.invariant.stale k (omega arith) within is }
