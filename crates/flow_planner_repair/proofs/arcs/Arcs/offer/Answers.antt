use Rattle.std.proofs.Common.{◌≡◌, ◌<◌, get_or, true, false, length, sym, subst, refl, ◌∙◌, arith}
use Rattle.flow_planner_net.specs.Networks.{options}
use Rattle.flow_planner_repair.specs.LeastArcs.{is_fresh, IsListed}
use Rattle.flow_planner_repair.proofs.ArcSteps.{offered_more}
use Rattle.flow_planner_repair.proofs.arcs.Arcs.offer.Goals as goal

pub loop-target-init : goal.loop-target-init
loop-target-init c = record {
  arcs = c.requires.arcs;
  offered = record {
    groups = c.requires.groups;
    others = λ o k inside ne. refl;
    known = λ k within is. refl;
    found = λ used k some stale least within listed. let below = listed.below in absurd (omega arith);
    rest = λ used k some stale least within. least;
  };
  fresh = refl;
  looks = omega arith;
  looks_stay = omega arith;
}

pub loop-target-preserved : goal.loop-target-preserved
loop-target-preserved c =
    let network = c.args.network.now in
    let source = c.args.source in
    let here = c.loop-target in
    let target = get_or c.args.targets.now here.target-index 0 in
    let within : target < options network = c.requires.targets here.target-index (omega arith) in
    let made = c.offer_to.ensures in
    record {
      arcs = made.arcs;
      offered = offered_more network source c.args.group c.args.self.now.fresh c.args.targets.now c.args.self.now.least here.self.least c.offer_to.new.self.least
          here.target-index target refl within here.invariant.offered made.groups made.others made.other_targets
          (λ is. made.known (subst (λ fresh. is_fresh (options network) fresh source target ≡ true) (sym here.invariant.fresh) is))
          (λ is. made.found (subst (λ fresh. is_fresh (options network) fresh source target ≡ false) (sym here.invariant.fresh) is));
      fresh = made.fresh ∙ here.invariant.fresh;
      looks = omega (arith, made.looks, here.invariant.looks);
      looks_stay = omega (arith, made.looks_stay, here.invariant.looks_stay);
    }

pub returns : goal.returns
returns c =
    let here = c.loop-target in
    let offered = here.invariant.offered in
    let all : here.target-index ≡ length c.args.targets.now = omega arith in
    record {
      arcs = here.invariant.arcs;
      groups = offered.groups;
      others = offered.others;
      known = offered.known;
      fresh = here.invariant.fresh;
      looks = omega (arith, here.invariant.looks, c.requires.short);
      looks_stay = here.invariant.looks_stay;
      found = λ used some before k within stale.
          offered.found used k some stale (before k within stale) within (subst (λ many. IsListed c.args.targets.now many k) (sym all) (c.requires.listed k within stale));
    }
