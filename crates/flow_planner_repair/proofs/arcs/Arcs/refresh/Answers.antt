use Rattle.std.proofs.Common.{◌≡◌, ◌≢◌, ◌<◌, ◌≤◌, ◌*◌, ℕ, None, true, false, length, take, ap, sym, subst, ◌∙◌, arith}
use Rattle.std.proofs.lemmas.List.{length-take-le}
use Rattle.flow_planner_net.specs.Networks.{options, size}
use Rattle.flow_planner_net.specs.States.{used_of}
use Rattle.flow_planner_repair.specs.LeastArcs.{AreLeast, AreFound, KnownAreSame, OthersAreSame, AreOptions, StaleAreListed, least_of, is_fresh}
use Rattle.flow_planner_repair.proofs.ArcSteps.{dropped_groups, refreshed_row, refreshed_kept, options-taken, listed-taken}
use Rattle.flow_planner_repair.proofs.arcs.Arcs.refresh.Goals as goal

pub are_fresh-requires : goal.are_fresh-requires
are_fresh-requires c =
    let all = c.options-width.ensures.exact in
    rw all (record { source = c.requires.source; marks = c.requires.arcs.marks })

pub returns-then-are_fresh : goal.returns-then-are_fresh
returns-then-are_fresh c =
    let network = c.args.network.now in
    let source = c.args.source in
    let all = c.options-width.ensures.exact in
    let right = subst (λ n. (k : ℕ) → k < n → is_fresh n c.args.self.now.fresh source k ≡ true) all (c.are_fresh.ensures c.if-are_fresh.true) in
    record {
      arcs = c.requires.arcs;
      kept = c.requires.kept;
      found = λ k within. c.requires.kept source k c.requires.source within (right k within);
      looks = omega arith;
      looks_stay = omega arith;
    }

pub stale_targets-stale-requires : goal.stale_targets-stale-requires
stale_targets-stale-requires c =
    let all = c.options-width.ensures.exact in
    let few = c.options-width.ensures.lawful.few_options in
    rw all (record { source = c.requires.source; marks = c.requires.arcs.marks; room = omega (arith, few, all) })

pub clear-requires : goal.clear-requires
clear-requires c =
    let all = c.options-width.ensures.exact in
    rw all (record { source = c.requires.source; pairs = c.requires.arcs.pairs; marks = c.requires.arcs.marks })

pub find-requires : goal.find-requires
find-requires c =
    let network = c.args.network.now in
    let source = c.args.source in
    let old = c.args.self.now in
    let cleared = c.clear.new.self in
    let made = c.clear.ensures in
    let all = c.options-width.ensures.exact in
    let none : (k : ℕ) → k < options network → is_fresh (options network) old.fresh source k ≡ false → least_of (options network) cleared.least source k ≡ None =
    subst (λ n. (k : ℕ) → k < n → is_fresh n old.fresh source k ≡ false → least_of n cleared.least source k ≡ None) all made.none in
    let known = subst (λ n. KnownAreSame n source old.fresh old.least cleared.least) all made.known in
    let listing = c.stale_targets-stale.ensures in
    let stale = c.stale_targets-stale.result in
    let places = c.stale_targets-stale.new.targets in
    let room : stale ≤ length places = omega (arith, listing.few, listing.len, c.options-width.ensures.lawful.few_options, all) in
    let listed = subst (λ n. StaleAreListed n old.fresh source places stale) all listing.listed in
    record {
      source = c.requires.source;
      targets = options-taken (options network) stale places room (subst (λ n. AreOptions n places stale) all listing.options);
      listed = subst (λ fresh. StaleAreListed (options network) fresh source (take stale places) (length (take stale places))) (sym made.fresh)
          (listed-taken (options network) stale old.fresh source places room listed);
      short = omega (arith, length-take-le stale places room, listing.few, all);
      arcs = record { pairs = subst (λ n. length cleared.least ≡ n * n) all made.pairs; marks = ap length made.fresh ∙ c.requires.arcs.marks };
      table = c.requires.table;
      groups = dropped_groups network (used_of (size network) c.args.counts.now) source old cleared.least c.requires.source c.requires.kept known none;
      none = subst (λ fresh. (k : ℕ) → k < options network → is_fresh (options network) fresh source k ≡ false → least_of (options network) cleared.least source k ≡ None)
          (sym made.fresh) none;
      few = omega (arith, made.looks, c.requires.few);
    }

pub keep-requires : goal.keep-requires
keep-requires c =
    let all = c.options-width.ensures.exact in
    rw all (record { source = c.requires.source; marks = c.find.ensures.arcs.marks })

pub returns : goal.returns
returns c =
    let network = c.args.network.now in
    let source = c.args.source in
    let used = used_of (size network) c.args.counts.now in
    let old = c.args.self.now in
    let cleared = c.clear.new.self.least in
    let least = c.find.new.self.least in
    let all = c.options-width.ensures.exact in
    let known1 = subst (λ n. KnownAreSame n source old.fresh old.least cleared) all c.clear.ensures.known in
    let others1 = subst (λ n. OthersAreSame n source old.least cleared) all c.clear.ensures.others in
    let known2 = subst (λ fresh. KnownAreSame (options network) source fresh cleared least) c.clear.ensures.fresh c.find.ensures.known in
    let found = subst (λ fresh. AreFound network used (size network) source least fresh) c.clear.ensures.fresh c.find.ensures.found in
    let row = refreshed_row network used source old cleared least c.requires.kept c.requires.source known1 known2 found in
    let fresh = c.find.ensures.fresh ∙ c.clear.ensures.fresh in
    let marks : (o k : ℕ) → k < options network → o ≢ source → is_fresh (options network) c.keep.new.self.fresh o k ≡ is_fresh (options network) old.fresh o k =
    subst (λ before. (o k : ℕ) → k < options network → o ≢ source → is_fresh (options network) c.keep.new.self.fresh o k ≡ is_fresh (options network) before o k) fresh
    (subst (λ n. (o k : ℕ) → k < n → o ≢ source → is_fresh n c.keep.new.self.fresh o k ≡ is_fresh n c.find.new.self.fresh o k) all c.keep.ensures.others) in
    let same = c.keep.ensures.least in
    record {
      arcs = record {
        pairs = ap length same ∙ c.find.ensures.arcs.pairs;
        marks = subst (λ n. length c.keep.new.self.fresh ≡ n * n) all c.keep.ensures.marks;
      };
      kept = rw same (refreshed_kept network used source old cleared least c.requires.kept c.keep.new.self.fresh row others1 c.find.ensures.others marks);
      found = subst (λ least. AreLeast network used (size network) source least) (sym same) row;
      looks = omega (arith, c.keep.ensures.looks, c.find.ensures.looks, c.clear.ensures.looks);
      looks_stay = omega (arith, c.keep.ensures.looks, c.find.ensures.looks_stay, c.clear.ensures.looks);
    }
