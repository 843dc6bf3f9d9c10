use Rattle.std.proofs.Common.{◌≡◌, ◌+◌, true, false, length, refl, ap, sym, subst, ◌∙◌, arith}
use Rattle.std.proofs.lemmas.Bool.{false≢true}
use Rattle.flow_planner_net.specs.Networks.{options, may}
use Rattle.flow_planner_net.proofs.Tables.{place-lt}
use Rattle.flow_planner_repair.specs.LeastArcs.{AreOfGroups, IsLeast, least_of, is_fresh}
use Rattle.flow_planner_repair.proofs.ArcSteps.{least-passed}
use Rattle.flow_planner_repair.proofs.arcs.Arcs.offer_to.Goals as goal

pub is_stale-requires : goal.is_stale-requires
is_stale-requires c =
    let network = c.args.network.now in
    let all = c.options.ensures.exact in
    rw all (omega (arith, c.requires.arcs.marks, place-lt (options network) (options network) c.args.source c.args.target c.requires.source c.requires.target))

pub returns-then-look : goal.returns-then-look
returns-then-look c =
    let network = c.args.network.now in
    let source = c.args.source in
    let target = c.args.target in
    let fresh = c.args.self.now.fresh in
    let stale : is_fresh (options network) fresh source target ≡ false =
    subst (λ n. is_fresh n fresh source target ≡ false) c.options.ensures.exact (c.is_stale.ensures.stale c.if-is_stale.true) in
    let looked = c.look.ensures in
    let made = c.improve.ensures in
    record {
      arcs = made.arcs;
      groups = made.groups;
      others = λ o k inside ne. made.others o k inside ne ∙ ap (λ least. least_of (options network) least o k) looked.least;
      other_targets = λ k inside ne. made.other_targets k inside ne ∙ ap (λ least. least_of (options network) least source k) looked.least;
      known = λ is. absurd (false≢true (sym stale ∙ is));
      fresh = made.fresh ∙ looked.fresh;
      looks = omega (arith, made.looks, looked.counted);
      looks_stay = omega (arith, made.looks, looked.counted);
      found = λ _ used some was.
          made.found used some (subst (λ least. IsLeast network used c.args.group source target (least_of (options network) least source target)) (sym looked.least) was);
    }

pub returns-else-look : goal.returns-else-look
returns-else-look c =
    let network = c.args.network.now in
    let source = c.args.source in
    let target = c.args.target in
    let group = c.args.group in
    let old = c.args.self.now.least in
    let looked = c.look.ensures in
    let closed : may network group target ≡ false = sym looked.exact ∙ c.if-look.false in
    record {
      arcs = record { pairs = ap length looked.least ∙ c.requires.arcs.pairs; marks = ap length looked.fresh ∙ c.requires.arcs.marks };
      groups = subst (λ least. AreOfGroups network source least) (sym looked.least) c.requires.groups;
      others = λ o k inside ne. ap (λ least. least_of (options network) least o k) looked.least;
      other_targets = λ k inside ne. ap (λ least. least_of (options network) least source k) looked.least;
      known = λ is. ap (λ least. least_of (options network) least source target) looked.least;
      fresh = looked.fresh;
      looks = omega (arith, looked.counted);
      looks_stay = omega (arith, looked.counted);
      found = λ _ used some was.
          subst (λ least. IsLeast network used (group + 1) source target (least_of (options network) least source target)) (sym looked.least)
          (least-passed network used group source target (least_of (options network) old source target) (λ _ allowed. false≢true (sym closed ∙ allowed)) was);
    }

pub returns-else-is_stale : goal.returns-else-is_stale
returns-else-is_stale c =
    let network = c.args.network.now in
    let source = c.args.source in
    let target = c.args.target in
    let fresh = c.args.self.now.fresh in
    let right : is_fresh (options network) fresh source target ≡ true =
    subst (λ n. is_fresh n fresh source target ≡ true) c.options.ensures.exact (c.is_stale.ensures.fresh c.if-is_stale.false) in
    record {
      arcs = c.requires.arcs;
      groups = c.requires.groups;
      others = λ o k inside ne. refl;
      other_targets = λ k inside ne. refl;
      known = λ is. refl;
      fresh = refl;
      looks = omega arith;
      looks_stay = omega arith;
      found = λ stale used some was. absurd (false≢true (sym stale ∙ right));
    }
