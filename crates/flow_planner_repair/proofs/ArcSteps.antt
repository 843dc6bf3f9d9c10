-- The least arc of the first groups, with one group more; and writes to the arcs.
use Rattle.std.proofs.Common.{◌≡◌, replicate, get_or, set, take, Bool, Some, None, Option, ℕ, zero, suc, ◌+◌, ◌-◌, ◌*◌, ◌<◌, ◌≤◌, ◌≢◌, drop, true, false, List, length, refl, ap, sym, ◌∙◌, subst, inl, inr, arith}
use Rattle.std.specs.List.{slice_range}
use Rattle.std.proofs.lemmas.Bool.{cases_eq, cases_lt, cases_Bool, false≢true}
use Rattle.std.proofs.lemmas.List.{get_or_read, get_or_past, get_or-replicate, length-replicate, get_or-set_same, get_or-set_other, get_or-take, length-take-le, get_or-drop, length-drop}
use Rattle.flow_planner_net.specs.Networks.{NetworkParts, options, size, cost, may}
use Rattle.flow_planner_net.specs.States.{used_of}
use Rattle.flow_planner_net.proofs.Tables.{IsSet, table-set, place-lt, used_of-is}
use Rattle.flow_planner_repair.specs.LeastArcs.{ArcsParts, AreArcs, no_arcs, least_of, is_fresh, IsLeast, IsLeastOf, AreLeast, AreKept, AreFound, AreOfGroups, KnownAreSame, OthersAreSame, IsMarked, IsDropped, IsListed, AreOptions, StaleAreListed}

pub least-set : (width : ℕ) (least : List (Option ℕ)) (o k : ℕ) (arc : Option ℕ) → k < width → o * width + k < length least
    → IsSet width (least_of width least) (least_of width (set least (o * width + k) arc)) o k arc
unfolding least_of
least-set width least o k arc below within =
    let changed = table-set None width least o k arc below within in
    record { here = changed.here; other_options = changed.other_options; other_groups = changed.other_groups }

module _ (network : NetworkParts) (used : ℕ → ℕ → ℕ) (group source target : ℕ) where
  -- none of the groups below this one, nor this one
  with_group : {P : ℕ → Type 0} → ((g : ℕ) → g < group → P g) → P group → (g : ℕ) → g < group + 1 → P g
  with_group {P = P} before here g below =
      elim (cases_eq g group) [
        | inl same ↦ subst P (sym same) here
        | inr other ↦ before g (omega arith)
      ]

  -- the group has no pins there, or its pins may not go there
  pub least-passed : (arc : Option ℕ) → (0 < used source group → may network group target ≡ true → ⊥)
      → IsLeast network used group source target arc → IsLeast network used (group + 1) source target arc
  least-passed None never before = with_group {P = λ g. 0 < used source g → may network g target ≡ true → ⊥} before never
  least-passed (Some best) never before = record {
    there = before.there;
    carried = before.carried;
    allowed = before.allowed;
    least = with_group {P = λ g. 0 < used source g → may network g target ≡ true → cost network best target + cost network g source ≤ cost network g target + cost network best source}
        before.least (λ some allowed. absurd (never some allowed));
  }

  -- of fewer groups
  pub least-fewer : (arc : Option ℕ) → IsLeast network used (group + 1) source target arc → IsLeast network used group source target arc
  least-fewer None least = λ g below carried allowed. least g (omega arith) carried allowed
  least-fewer (Some best) least = record {
    there = least.there;
    carried = least.carried;
    allowed = least.allowed;
    least = λ g below carried allowed. least.least g (omega arith) carried allowed;
  }

  pub least-kept : (best : ℕ) → cost network best target + cost network group source ≤ cost network group target + cost network best source
      → IsLeastOf network used group source target best → IsLeastOf network used (group + 1) source target best
  least-kept best less before = record {
    there = before.there;
    carried = before.carried;
    allowed = before.allowed;
    least = with_group {P = λ g. 0 < used source g → may network g target ≡ true → cost network best target + cost network g source ≤ cost network g target + cost network best source}
        before.least (λ some allowed. less);
  }

  pub least-new : (arc : Option ℕ) → group < size network → 0 < used source group → may network group target ≡ true
      → ((best : ℕ) → arc ≡ Some best → cost network group target + cost network best source ≤ cost network best target + cost network group source)
      → IsLeast network used group source target arc → IsLeastOf network used (group + 1) source target group
  least-new None there some allowed less before = record {
    there = there;
    carried = some;
    allowed = allowed;
    least = with_group {P = λ g. 0 < used source g → may network g target ≡ true → cost network group target + cost network g source ≤ cost network g target + cost network group source}
        (λ g below carried may_go. absurd (before g below carried may_go)) (λ some allowed. omega arith);
  }
  least-new (Some best) there some allowed less before = record {
    there = there;
    carried = some;
    allowed = allowed;
    least = with_group {P = λ g. 0 < used source g → may network g target ≡ true → cost network group target + cost network g source ≤ cost network g target + cost network group source}
        (λ g below carried may_go. omega (arith, before.least g below carried may_go, less best refl)) (λ some allowed. omega arith);
  }

-- the arcs after the group's was put between two options
pub record IsImproved (network : NetworkParts) (old new : List (Option ℕ)) (source target group : ℕ) : Type 0 where
  pub groups : AreOfGroups network source new
  pub others : OthersAreSame (options network) source old new
  pub other_targets : (k : ℕ) → k < options network → k ≢ target → least_of (options network) new source k ≡ least_of (options network) old source k
  pub found : (used : ℕ → ℕ → ℕ) → 0 < used source group → IsLeast network used group source target (least_of (options network) old source target)
      → IsLeast network used (group + 1) source target (least_of (options network) new source target)

pub improved : (network : NetworkParts) (least : List (Option ℕ)) (source target group : ℕ) → length least ≡ options network * options network
    → source < options network → target < options network → group < size network → may network group target ≡ true → AreOfGroups network source least
    → ((best : ℕ) → least_of (options network) least source target ≡ Some best
    → cost network group target + cost network best source ≤ cost network best target + cost network group source)
    → IsImproved network least (set least (source * options network + target) (Some group)) source target group
improved network least source target group pairs source_in target_in group_in allowed groups less = record {
  groups = λ k best within is.
      elim (cases_eq k target) [
        | inl same ↦
            let e : Some group ≡ Some best = sym changed.here ∙ subst (λ k. least_of (options network) after source k ≡ Some best) same is in
            let same_group : group ≡ best = cc in
            omega arith
        | inr other ↦ groups k best within (sym (changed.other_groups source k within other) ∙ is)
      ];
  others = λ o k within ne. changed.other_options o k within ne;
  other_targets = λ k within ne. changed.other_groups source k within ne;
  found = λ used some before.
      subst (λ arc. IsLeast network used (group + 1) source target arc) (sym changed.here)
      (least-new network used group source target (least_of (options network) least source target) group_in some allowed less before);
}
  where
    after : List (Option ℕ)
    after = set least (source * options network + target) (Some group)

    changed : IsSet (options network) (least_of (options network) least) (least_of (options network) (set least (source * options network + target) (Some group))) source target (Some group)
    changed = least-set (options network) least source target (Some group) target_in
        (omega (arith, pairs, place-lt (options network) (options network) source target source_in target_in))

-- an option that is listed, and isn't the last one, is listed before it
listed-before : (targets : List ℕ) (many k : ℕ) → IsListed targets (many + 1) k → k ≢ get_or targets many 0 → IsListed targets many k
listed-before targets many k listed other =
    elim (cases_eq listed.place many) [
      | inl same ↦ absurd (other (sym listed.there ∙ ap (λ i. get_or targets i 0) same))
      | inr another ↦ record { place = listed.place; below = let below = listed.below in omega arith; there = listed.there }
    ]

-- one option more is listed
pub listed-more : (targets : List ℕ) (many target k : ℕ) → many < length targets → IsListed targets many k → IsListed (set targets many target) (many + 1) k
listed-more targets many target k within listed =
    let below = listed.below in
    record {
      place = listed.place;
      below = omega arith;
      there = get_or-set_other targets many listed.place target 0 (λ same. absurd (omega arith)) ∙ listed.there;
    }

pub listed-here : (targets : List ℕ) (many target : ℕ) → many < length targets → IsListed (set targets many target) (many + 1) target
listed-here targets many target within = record { place = many; below = omega arith; there = get_or-set_same targets many target 0 within }

pub options-more : (width : ℕ) (targets : List ℕ) (many target : ℕ) → many < length targets → target < width → AreOptions width targets many
    → AreOptions width (set targets many target) (many + 1)
options-more width targets many target within inside before i below =
    elim (cases_eq i many) [
      | inl same ↦ subst (λ i. get_or (set targets many target) i 0 < width) (sym same) (omega (arith, get_or-set_same targets many target 0 within))
      | inr other ↦ omega (arith, get_or-set_other targets many i target 0 other, before i (omega arith))
    ]

-- the same of the list that has these alone
pub options-taken : (width n : ℕ) (targets : List ℕ) → n ≤ length targets → AreOptions width targets n
    → AreOptions width (take n targets) (length (take n targets))
options-taken width n targets within options i below =
    let first : i < n = omega (arith, length-take-le n targets within) in
    omega (arith, get_or-take n targets i 0 first, options i first)

pub listed-taken : (width n : ℕ) (fresh : List Bool) (source : ℕ) (targets : List ℕ) → n ≤ length targets → StaleAreListed width fresh source targets n
    → StaleAreListed width fresh source (take n targets) (length (take n targets))
listed-taken width n fresh source targets within listed target inside stale =
    let there = listed target inside stale in
    let below = there.below in
    record {
      place = there.place;
      below = omega (arith, length-take-le n targets within);
      there = get_or-take n targets there.place 0 below ∙ there.there;
    }

-- the group's arcs to the first options of the list were looked at, where they aren't right
pub record IsOffered (network : NetworkParts) (source group : ℕ) (fresh : List Bool) (targets : List ℕ) (old new : List (Option ℕ)) (many : ℕ) : Type 0 where
  pub groups : AreOfGroups network source new
  pub others : OthersAreSame (options network) source old new
  pub known : KnownAreSame (options network) source fresh old new
  pub found : (used : ℕ → ℕ → ℕ) (k : ℕ) → 0 < used source group → is_fresh (options network) fresh source k ≡ false
      → IsLeast network used group source k (least_of (options network) old source k) → k < options network → IsListed targets many k
      → IsLeast network used (group + 1) source k (least_of (options network) new source k)
  pub rest : (used : ℕ → ℕ → ℕ) (k : ℕ) → 0 < used source group → is_fresh (options network) fresh source k ≡ false
      → IsLeast network used group source k (least_of (options network) old source k) → k < options network
      → IsLeast network used group source k (least_of (options network) new source k)

module _ (network : NetworkParts) (source group : ℕ) (fresh : List Bool) (targets : List ℕ) (old middle new : List (Option ℕ)) (many target : ℕ)
    (is_target : get_or targets many 0 ≡ target) (within : target < options network)
    (before : IsOffered network source group fresh targets old middle many) where
  -- one option more
  pub offered_more : AreOfGroups network source new → OthersAreSame (options network) source middle new
      → ((k : ℕ) → k < options network → k ≢ target → least_of (options network) new source k ≡ least_of (options network) middle source k)
      → (is_fresh (options network) fresh source target ≡ true → least_of (options network) new source target ≡ least_of (options network) middle source target)
      → (is_fresh (options network) fresh source target ≡ false → (used : ℕ → ℕ → ℕ) → 0 < used source group
      → IsLeast network used group source target (least_of (options network) middle source target)
      → IsLeast network used (group + 1) source target (least_of (options network) new source target))
      → IsOffered network source group fresh targets old new (many + 1)
  offered_more groups others other_targets same_here here = record {
    groups = groups;
    others = λ o k inside ne. others o k inside ne ∙ before.others o k inside ne;
    known = λ k inside is.
        elim (cases_eq k target) [
          | inl same ↦
              let right = subst (λ k. is_fresh (options network) fresh source k ≡ true) same is in
              subst (λ k. least_of (options network) new source k ≡ least_of (options network) old source k) (sym same)
              (same_here right ∙ before.known target within right)
          | inr other ↦ other_targets k inside other ∙ before.known k inside is
        ];
    found = λ used k some stale least inside listed.
        elim (cases_eq k target) [
          | inl same ↦ at_target used k some stale least same
          | inr other ↦
              let earlier = listed-before targets many k listed (λ is. other (is ∙ is_target)) in
              subst (λ arc. IsLeast network used (group + 1) source k arc) (sym (other_targets k inside other)) (before.found used k some stale least inside earlier)
        ];
    rest = λ used k some stale least inside.
        elim (cases_eq k target) [
          | inl same ↦ least-fewer network used group source k (least_of (options network) new source k) (at_target used k some stale least same)
          | inr other ↦
              subst (λ arc. IsLeast network used group source k arc) (sym (other_targets k inside other)) (before.rest used k some stale least inside)
        ];
  }
    where
      at_target : (used : ℕ → ℕ → ℕ) (k : ℕ) → 0 < used source group → is_fresh (options network) fresh source k ≡ false
          → IsLeast network used group source k (least_of (options network) old source k) → k ≡ target
          → IsLeast network used (group + 1) source k (least_of (options network) new source k)
      at_target used k some stale least same =
          let there = subst (λ k. IsLeast network used group source k (least_of (options network) old source k)) same least in
          let old_stale = subst (λ k. is_fresh (options network) fresh source k ≡ false) same stale in
          subst (λ k. IsLeast network used (group + 1) source k (least_of (options network) new source k)) (sym same)
          (here old_stale used some (before.rest used target some old_stale there within))

-- what the first groups' arcs leave
pub record IsFinding (network : NetworkParts) (used : ℕ → ℕ → ℕ) (source : ℕ) (fresh : List Bool) (old new : List (Option ℕ)) (groups : ℕ) : Type 0 where
  pub of_groups : AreOfGroups network source new
  pub others : OthersAreSame (options network) source old new
  pub known : KnownAreSame (options network) source fresh old new
  pub found : AreFound network used groups source new fresh

-- one group more, which has none
finding_past : (network : NetworkParts) (used : ℕ → ℕ → ℕ) (source : ℕ) (fresh : List Bool) (old new : List (Option ℕ)) (group : ℕ) → used source group ≤ 0
    → IsFinding network used source fresh old new group → IsFinding network used source fresh old new (group + 1)
finding_past network used source fresh old new group none before = record {
  of_groups = before.of_groups;
  others = before.others;
  known = before.known;
  found = λ k within stale.
      least-passed network used group source k (least_of (options network) new source k) (λ some allowed. absurd (omega arith)) (before.found k within stale);
}

-- so many groups more, where none has pins there
pub finding_past_all : (network : NetworkParts) (used : ℕ → ℕ → ℕ) (source : ℕ) (fresh : List Bool) (old new : List (Option ℕ)) (from many : ℕ)
    → ((i : ℕ) → i < many → used source (from + i) ≤ 0) → IsFinding network used source fresh old new from
    → IsFinding network used source fresh old new (from + many)
finding_past_all network used source fresh old new from zero none before =
    let same : from ≡ from + 0 = omega arith in
    subst (λ n. IsFinding network used source fresh old new n) same before
finding_past_all network used source fresh old new from (suc many) none before =
    let rest = finding_past_all network used source fresh old new from many (λ i below. none i (omega arith)) before in
    let same : from + many + 1 ≡ from + suc many = omega arith in
    subst (λ n. IsFinding network used source fresh old new n) same (finding_past network used source fresh old new (from + many) (none many (omega arith)) rest)

-- so many groups more, which were looked through
pub finding_all : (network : NetworkParts) (used : ℕ → ℕ → ℕ) (source : ℕ) (fresh : List Bool) (old middle new : List (Option ℕ)) (from many : ℕ)
    → IsFinding network used source fresh old middle from → AreOfGroups network source new → OthersAreSame (options network) source middle new
    → KnownAreSame (options network) source fresh middle new
    → (AreFound network used from source middle fresh → AreFound network used (from + many) source new fresh)
    → IsFinding network used source fresh old new (from + many)
finding_all network used source fresh old middle new from many before groups others known found = record {
  of_groups = groups;
  others = λ o k inside ne. others o k inside ne ∙ before.others o k inside ne;
  known = λ k inside is. known k inside is ∙ before.known k inside is;
  found = found before.found;
}

pub finding_start : (network : NetworkParts) (used : ℕ → ℕ → ℕ) (source : ℕ) (fresh : List Bool) (old : List (Option ℕ))
    → ((k : ℕ) → k < options network → is_fresh (options network) fresh source k ≡ false → least_of (options network) old source k ≡ None)
    → AreOfGroups network source old → IsFinding network used source fresh old old 0
finding_start network used source fresh old none groups = record {
  of_groups = groups;
  others = λ o k inside ne. refl;
  known = λ k inside is. refl;
  found = λ k within stale.
      subst (λ arc. IsLeast network used 0 source k arc) (sym (none k within stale)) (λ g below some allowed. absurd (omega arith));
}

-- a known arc is of a group that there is
pub least_there : (network : NetworkParts) (used : ℕ → ℕ → ℕ) (groups source target : ℕ) (arc : Option ℕ) → IsLeast network used groups source target arc
    → (best : ℕ) → arc ≡ Some best → best < size network
least_there network used groups source target None least best is = absurd cc
least_there network used groups source target (Some first) least best is = let same : first ≡ best = cc in omega (arith, least.there)

-- where the arcs that aren't right are dropped, all that are left are of groups that there are
pub dropped_groups : (network : NetworkParts) (used : ℕ → ℕ → ℕ) (source : ℕ) (old : ArcsParts) (new : List (Option ℕ)) → source < options network
    → AreKept network used old → KnownAreSame (options network) source old.fresh old.least new
    → ((k : ℕ) → k < options network → is_fresh (options network) old.fresh source k ≡ false → least_of (options network) new source k ≡ None)
    → AreOfGroups network source new
dropped_groups network used source old new source_in kept known none k best within is =
    elim (cases_Bool (is_fresh (options network) old.fresh source k)) [
      | inl right ↦
          least_there network used (size network) source k (least_of (options network) old.least source k) (kept source k source_in within right) best
          (sym (known k within right) ∙ is)
      | inr stale ↦ let e : None ≡ Some best = sym (none k within stale) ∙ is in absurd cc
    ]

module _ (network : NetworkParts) (used : ℕ → ℕ → ℕ) (source : ℕ) (old : ArcsParts) (cleared least : List (Option ℕ)) (kept : AreKept network used old) where
  -- all arcs from the option are right now
  pub refreshed_row : source < options network → KnownAreSame (options network) source old.fresh old.least cleared
      → KnownAreSame (options network) source old.fresh cleared least → AreFound network used (size network) source least old.fresh
      → AreLeast network used (size network) source least
  refreshed_row source_in first second found k within =
      elim (cases_Bool (is_fresh (options network) old.fresh source k)) [
        | inl right ↦
            subst (λ arc. IsLeast network used (size network) source k arc) (sym (second k within right ∙ first k within right)) (kept source k source_in within right)
        | inr stale ↦ found k within stale
      ]

  -- and those from others stay right
  pub refreshed_kept : (fresh : List Bool) → AreLeast network used (size network) source least → OthersAreSame (options network) source old.least cleared
      → OthersAreSame (options network) source cleared least
      → ((o k : ℕ) → k < options network → o ≢ source → is_fresh (options network) fresh o k ≡ is_fresh (options network) old.fresh o k)
      → (o k : ℕ) → o < options network → k < options network → is_fresh (options network) fresh o k ≡ true
      → IsLeast network used (size network) o k (least_of (options network) least o k)
  refreshed_kept fresh row first second marks o k within inside is =
      elim (cases_eq o source) [
        | inl same ↦ subst (λ o. IsLeast network used (size network) o k (least_of (options network) least o k)) (sym same) (row k inside)
        | inr other ↦
            subst (λ arc. IsLeast network used (size network) o k arc) (sym (second o k inside other ∙ first o k inside other))
            (kept o k within inside (sym (marks o k inside other) ∙ is))
      ]

pub marked : (width : ℕ) (fresh : List Bool) (o k : ℕ) (right : Bool) → k < width → o * width + k < length fresh
    → IsMarked width fresh (set fresh (o * width + k) right) o k right
unfolding is_fresh
marked width fresh o k right below within =
    let changed = table-set false width fresh o k right below within in
    record { here = changed.here; other_options = changed.other_options; other_targets = changed.other_groups }

pub dropped : (width : ℕ) (least : List (Option ℕ)) (o k : ℕ) → k < width → o * width + k < length least
    → IsDropped width least (set least (o * width + k) None) o k
dropped width least o k below within =
    let changed = least-set width least o k None below within in
    record { here = changed.here; other_options = changed.other_options; other_targets = changed.other_groups }

pub fresh-read : (width : ℕ) (fresh : List Bool) (o k : ℕ) (right : Bool) → o * width + k < length fresh → right ≡ get_or fresh (o * width + k) right
    → is_fresh width fresh o k ≡ right
unfolding is_fresh
fresh-read width fresh o k right within is = sym (get_or_read fresh (o * width + k) right within is false)

-- where no arcs are known, all that are said to be right are
pub no_arcs-len : (network : NetworkParts) → AreArcs network (no_arcs (options network))
no_arcs-len network = record {
  pairs = length-replicate (options network * options network) None;
  marks = length-replicate (options network * options network) false;
}

never_fresh : (n o k : ℕ) → is_fresh n (replicate (n * n) false) o k ≡ false
unfolding is_fresh
never_fresh n o k =
    elim (cases_lt (o * n + k) (n * n)) [
      | inl within ↦ get_or-replicate (n * n) (o * n + k) false false within
      | inr past ↦ get_or_past (replicate (n * n) false) (o * n + k) false (omega (arith, length-replicate (n * n) false))
    ]

pub no_arcs-kept : (network : NetworkParts) (used : ℕ → ℕ → ℕ) → AreKept network used (no_arcs (options network))
no_arcs-kept network used o k within inside is = absurd (false≢true (sym (never_fresh (options network) o k) ∙ is))

-- where no count of a part of the table isn't 0, none of these groups has pins there
pub unused-of : (width : ℕ) (counts : List ℕ) (source from many place end : ℕ) → place ≡ source * width + from → end ≡ place + many → end ≤ length counts
    → ((i : ℕ) → i < length (slice_range counts place end) → get_or (slice_range counts place end) i 0 ≤ 0)
    → (i : ℕ) → i < many → used_of width counts source (from + i) ≤ 0
unused-of width counts source from many place end place_is end_is within none i below =
    let long = length-take-le (end - place) (drop place counts) (omega (arith, length-drop place counts)) in
    let here : place + i ≡ source * width + (from + i) = omega arith in
    let there : get_or counts (place + i) 0 ≡ get_or counts (source * width + (from + i)) 0 = ap (λ k. get_or counts k 0) here in
    omega (
      arith,
      none i (omega arith),
      get_or-take (end - place) (drop place counts) i 0 (omega arith),
      get_or-drop place counts i 0,
      there,
      used_of-is width counts source (from + i),
    )
