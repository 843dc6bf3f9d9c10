use Rattle.std.proofs.Common.{◌≡◌, true, false, length, ap, sym, subst, ◌∙◌, inl, inr, arith}
use Rattle.std.proofs.lemmas.Bool.{cases_eq, false≢true}
use Rattle.flow_planner_net.specs.Networks.{options, may}
use Rattle.flow_planner_net.proofs.Tables.{place-lt}
use Rattle.flow_planner_repair.specs.LeastArcs.{AreFewer, IsMarked, IsNoLess, least_of, is_fresh}
use Rattle.flow_planner_repair.proofs.ForgetSteps.{fewer_same, fewer_marked, fewer_looked}
use Rattle.flow_planner_repair.proofs.forget.forget_dearer.Goals as goal
use Rattle.flow_planner_repair.proofs.forget.forget_dearer.Goals.{then-beats, else-beats}

pub loop-target-init : goal.loop-target-init
loop-target-init c = record { fewer = fewer_same c.args.network.now c.args.arcs.now; looks = omega arith; no_less = λ k below. absurd (omega arith) }

pub beats-requires : goal.beats-requires
beats-requires c =
    let here = c.loop-target in
    let all = c.options-width.ensures.exact in
    record {
      source = c.requires.option;
      target = omega arith;
      group = c.requires.group;
      arcs = record { pairs = ap length here.invariant.fewer.least ∙ c.requires.arcs.pairs; marks = here.invariant.fewer.marks ∙ c.requires.arcs.marks };
      few = omega (arith, here.invariant.looks, c.requires.few);
    }

pub set_fresh-requires : goal.set_fresh-requires
set_fresh-requires c =
    let network = c.args.network.now in
    let here = c.loop-target in
    let all = c.options-width.ensures.exact in
    rw all (record {
      target = omega arith;
      within = omega (arith, ap length c.beats.ensures.fresh, here.invariant.fewer.marks, c.requires.arcs.marks, place-lt (options network) (options network) c.args.option here.target c.requires.option (omega arith));
    })

pub loop-target-preserved : goal.loop-target-preserved
loop-target-preserved c =
    let network = c.args.network.now in
    let option = c.args.option in
    let group = c.args.group in
    let here = c.loop-target in
    let target = here.target in
    let all = c.options-width.ensures.exact in
    let looked = c.beats.ensures in
    let seen = c.beats.new.self in
    let before : AreFewer network c.args.arcs.now seen = fewer_looked network c.args.arcs.now here.arcs seen here.invariant.fewer looked.least looked.fresh in
    elim c.if-beats.branch [
      | then-beats w ↦
          let made = w.set_fresh.ensures in
          let set = subst (λ n. IsMarked n seen.fresh w.set_fresh.new.self.fresh option target false) all made.set in
          rw w.arcs-is (record {
            fewer = fewer_marked network c.args.arcs.now seen w.set_fresh.new.self option target before made.least made.marks set;
            looks = omega (arith, made.looks, looked.counted, here.invariant.looks);
            no_less = λ k below within allowed right.
                elim (cases_eq k target) [
                  | inl same ↦
                      let there = subst (λ k. is_fresh (options network) w.set_fresh.new.self.fresh option k ≡ true) same right in
                      absurd (false≢true (sym set.here ∙ there))
                  | inr other ↦
                      let was = ap (λ fresh. is_fresh (options network) fresh option k) looked.fresh in
                      here.invariant.no_less k (omega arith) within allowed (sym (set.other_targets option k within other ∙ was) ∙ right)
                ];
          })
      | else-beats w ↦
          let least = here.invariant.fewer.least in
          rw w.arcs-is (record {
            fewer = before;
            looks = omega (arith, looked.counted, here.invariant.looks);
            no_less = λ k below within allowed right.
                elim (cases_eq k target) [
                  | inl same ↦
                      let open_there = subst (λ k. may network group k ≡ true) same allowed in
                      let kept = looked.no_less w.if-beats.false open_there in
                      let first = subst (λ least. IsNoLess network group option target (least_of (options network) least option target)) least kept in
                      subst (λ k. IsNoLess network group option k (least_of (options network) c.args.arcs.now.least option k)) (sym same) first
                  | inr other ↦
                      let was = ap (λ fresh. is_fresh (options network) fresh option k) looked.fresh in
                      here.invariant.no_less k (omega arith) within allowed (sym was ∙ right)
                ];
          })
    ]

pub returns : goal.returns
returns c =
    let here = c.loop-target in
    let all = c.options-width.ensures.exact in
    record {
      fewer = here.invariant.fewer;
      looks = omega (arith, here.invariant.looks);
      no_less = λ k within allowed right. here.invariant.no_less k (omega arith) within allowed right;
    }
