use Rattle.std.proofs.Common.{◌≡◌, get_or, ◌+◌, ◌*◌, ◌<◌, ◌≤◌, ℕ, length, refl, sym, subst, ◌∙◌, arith}
use Rattle.std.proofs.Math.Nat.{mul-le-mul_right}
use Rattle.flow_planner_net.specs.Networks.{options, size}
use Rattle.flow_planner_net.specs.States.{used_of}
use Rattle.flow_planner_net.proofs.Tables.{used_of-is}
use Rattle.flow_planner_repair.specs.LeastArcs.{KnownAreSame, AreFound, StaleAreListed, least_of}
use Rattle.flow_planner_repair.proofs.ArcSteps.{least-passed}
use Rattle.flow_planner_repair.proofs.arcs.Arcs.find_among.Goals as goal
use Rattle.flow_planner_repair.proofs.arcs.Arcs.find_among.Goals.{then-counts-source-gt0, else-counts-source-gt0}

pub loop-step-init : goal.loop-step-init
loop-step-init c =
    let network = c.args.network.now in
    let old = c.args.self.now in
    let used = used_of (size network) c.args.counts.now in
    let same : c.args.from ≡ c.args.from + 0 = omega arith in
    record {
      arcs = c.requires.arcs;
      groups = c.requires.groups;
      others = λ o k inside ne. refl;
      known = λ k inside is. refl;
      found = λ before. subst (λ n. AreFound network used n c.args.source old.least old.fresh) same before;
      fresh = refl;
      looks = omega arith;
      looks_stay = omega arith;
    }

pub offer-requires : goal.offer-requires
offer-requires c =
    let network = c.args.network.now in
    let here = c.loop-step in
    let within : here.step + 1 ≤ c.args.many = omega arith in
    record {
      source = c.requires.source;
      group = omega (arith, c.requires.within);
      targets = c.requires.targets;
      listed = subst (λ fresh. StaleAreListed (options network) fresh c.args.source c.args.targets.now (length c.args.targets.now)) (sym here.invariant.fresh) c.requires.listed;
      short = c.requires.short;
      arcs = here.invariant.arcs;
      groups = here.invariant.groups;
      few = omega (arith, here.invariant.looks, c.requires.few, mul-le-mul_right (options network) within);
    }

pub loop-step-preserved : goal.loop-step-preserved
loop-step-preserved c =
    let network = c.args.network.now in
    let old = c.args.self.now in
    let here = c.loop-step in
    let used = used_of (size network) c.args.counts.now in
    let source = c.args.source in
    let group = c.args.from + here.step in
    let width = c.size-size.ensures.exact in
    let read : get_or c.args.counts.now (source * c.size-size.result + group) 0 ≡ used source group =
    rw width (sym (used_of-is (size network) c.args.counts.now source group)) in
    let next : group + 1 ≡ c.args.from + (here.step + 1) = omega arith in
    elim c.if-counts-source-gt0.branch [
      | then-counts-source-gt0 w ↦
          let made = w.offer.ensures in
          let some : 0 < used source group = omega (arith, w.if-counts-source-gt0.true) in
          let found = subst (λ fresh. (used : ℕ → ℕ → ℕ) → 0 < used source group → AreFound network used group source here.self.least fresh → AreFound network used (group + 1) source w.offer.new.self.least fresh) here.invariant.fresh made.found in
          let known = subst (λ fresh. KnownAreSame (options network) source fresh here.self.least w.offer.new.self.least) here.invariant.fresh made.known in
          rw w.self-is (record {
            arcs = made.arcs;
            groups = made.groups;
            others = λ o k inside ne. made.others o k inside ne ∙ here.invariant.others o k inside ne;
            known = λ k inside is. known k inside is ∙ here.invariant.known k inside is;
            found = λ before.
                subst (λ n. AreFound network used n source w.offer.new.self.least old.fresh) next (found used some (here.invariant.found before));
            fresh = made.fresh ∙ here.invariant.fresh;
            looks = omega (arith, made.looks, here.invariant.looks);
            looks_stay = omega (arith, made.looks_stay, here.invariant.looks_stay);
          })
      | else-counts-source-gt0 w ↦
          let none : used source group ≤ 0 = omega (arith, w.if-counts-source-gt0.false) in
          rw w.self-is (record {
            arcs = here.invariant.arcs;
            groups = here.invariant.groups;
            others = here.invariant.others;
            known = here.invariant.known;
            found = λ before.
                let passed : AreFound network used (group + 1) source here.self.least old.fresh = λ k inside stale.
                least-passed network used group source k (least_of (options network) here.self.least source k) (λ some allowed. absurd (omega arith)) (here.invariant.found before k inside stale) in
                subst (λ n. AreFound network used n source here.self.least old.fresh) next passed;
            fresh = here.invariant.fresh;
            looks = omega (arith, here.invariant.looks);
            looks_stay = here.invariant.looks_stay;
          })
    ]
