-- One step of the search: the nearest option that isn't settled is settled, and its arcs are followed.
use Rattle.std.proofs.Common.{◌≡◌, Some, None, Option, ℕ, ◌+◌, ◌-◌, ◌<◌, ◌≤◌, ◌≢◌, min, List, refl, sym, ap, ◌∙◌, subst, ◌⊎◌, inl, inr, arith}
use Rattle.std.proofs.lemmas.Bool.{cases_eq, cases_lt}
use Rattle.pin_set.specs.Costs.{sum_to}
use Rattle.flow_planner_net.specs.Networks.{NetworkParts, options, size, capacity}
use Rattle.flow_planner_net.specs.States.{full, IsCheapest}
use Rattle.flow_planner_net.proofs.Sums.{sum_to-below_ones, sum_to-changed_below}
use Rattle.flow_planner_net.proofs.Loads.{full-is}
use Rattle.flow_planner_repair.specs.declared.label.Label.{Label}
use Rattle.flow_planner_repair.specs.LeastArcs.{IsLeast, IsLeastOf}
use Rattle.flow_planner_repair.specs.Searches.{dist, source, via, rank, far, mark, IsRelaxed, IsArc, IsReached, IsSearch, IsNearest, IsFollowed, IsRanked}

pub record IsSettling (network : NetworkParts) (used : ℕ → ℕ → ℕ) (price load : ℕ → ℕ) (old ranked new : List Label) (start settled here : ℕ) (arc : ℕ → Option ℕ) : Type 0 where
  pub cheapest : IsCheapest network used price
  pub start_in : start < options network
  pub search : IsSearch network used price load old start settled
  pub nearest : IsNearest network old here
  pub near : dist old here < far
  pub busy : capacity network here ≤ load here
  pub marked : IsRanked old ranked here settled
  pub least : (o : ℕ) → o < options network → IsLeast network used (size network) here o (arc o)
  pub followed : (o : ℕ) → o < options network → IsFollowed network price (arc o) here ranked new o

least_some : (network : NetworkParts) (used : ℕ → ℕ → ℕ) (n i j : ℕ) (arc : Option ℕ) (v : ℕ) → arc ≡ Some v → IsLeast network used n i j arc → IsLeastOf network used n i j v
least_some network used n i j arc v is least = subst (λ a. IsLeast network used n i j a) is least

mark-settled : (n : ℕ) (labels : List Label) (o : ℕ) → rank labels o < n → mark n labels o ≡ 1
mark-settled n labels o settled = omega arith

mark-open : (n : ℕ) (labels : List Label) (o : ℕ) → n ≤ rank labels o → mark n labels o ≡ 0
mark-open n labels o not_yet = omega arith

-- as long as some option isn't settled, fewer are settled than there are
pub settled-lt : (n : ℕ) (labels : List Label) (o : ℕ) → o < n → n ≤ rank labels o → sum_to n (mark n labels) < n
settled-lt n labels o within not_yet =
    sum_to-below_ones n (mark n labels) o within (λ s _. omega arith) (mark-open n labels o not_yet)

module _ (network : NetworkParts) (used : ℕ → ℕ → ℕ) (price load : ℕ → ℕ) (old ranked new : List Label) (start settled here : ℕ) (arc : ℕ → Option ℕ)
    (step : IsSettling network used price load old ranked new start settled here arc) where
  n : ℕ
  n = options network

  more_room : settled < options network
  more_room = omega (arith, settled-lt (options network) old here step.nearest.there step.nearest.open_yet, step.search.counted)

  rank_here : rank new here ≡ settled
  rank_here = (step.followed here step.nearest.there).rank ∙ step.marked.there

  rank_other : (o : ℕ) → o < options network → o ≢ here → rank new o ≡ rank old o
  rank_other o within ne = (step.followed o within).rank ∙ step.marked.others o ne

  -- an option that is settled now was settled before, or is the one that was nearest
  which : (o : ℕ) → o < options network → rank new o < options network → (o ≡ here) ⊎ (rank old o < options network)
  which o within now =
      elim (cases_eq o here) [
        | inl same ↦ inl same
        | inr other ↦ inr (omega (arith, rank_other o within other))
      ]

  -- a distance that fell is no less than that of the option just settled
  fallen : (o : ℕ) → o < options network → dist new o < dist old o → dist old here ≤ dist new o
  fallen o within less =
      let follow = step.followed o within in
      let lower : dist new o < dist ranked o = omega (arith, step.marked.same_dist o) in
      let v = via new o in
      let is = least_some network used (size network) here o (arc o) v (follow.by_arc lower) (step.least o within) in
      let up = step.cheapest.least here o v step.nearest.there within is.there is.carried is.allowed in
      omega (arith, follow.exact lower, step.marked.same_dist here)

  -- an option that is no farther than the one just settled keeps its distance
  kept : (o : ℕ) → o < options network → dist old o ≤ dist old here → dist new o ≡ dist old o
  kept o within near =
      elim (cases_lt (dist new o) (dist old o)) [
        | inl less ↦ absurd (omega (arith, fallen o within less))
        | inr same ↦ omega (arith, (step.followed o within).lower, step.marked.same_dist o)
      ]

  kept_here : dist new here ≡ dist old here
  kept_here = kept here step.nearest.there (omega arith)

  kept_settled : (o : ℕ) → o < options network → rank old o < options network → dist new o ≡ dist old o
  kept_settled o within before = kept o within (step.search.order o here within step.nearest.there before step.nearest.open_yet)

  -- no distance of an option that isn't settled is less than that of the one just settled
  not_nearer : (o : ℕ) → o < options network → options network ≤ rank old o → dist old here ≤ dist new o
  not_nearer o within not_yet =
      elim (cases_lt (dist new o) (dist old o)) [
        | inl less ↦ fallen o within less
        | inr same ↦ omega (arith, step.nearest.least o within not_yet)
      ]

  reached_anew : (o : ℕ) → o < options network → o ≢ start → dist new o < dist old o → IsReached network used price new o
  reached_anew o within ne less =
      let follow = step.followed o within in
      let lower : dist new o < dist ranked o = omega (arith, step.marked.same_dist o) in
      let is = least_some network used (size network) here o (arc o) (via new o) (follow.by_arc lower) (step.least o within) in
      let above = fallen o within less in
      let not_yet : options network ≤ rank old o =
      elim (cases_lt (rank old o) (options network)) [
        | inl before ↦ absurd (omega (arith, kept_settled o within before))
        | inr after ↦ after
      ] in
      let other : o ≢ here = λ same. absurd (omega (arith, ap (dist new) same, ap (dist old) same, kept_here)) in
      let made : IsArc network used price new o here (via new o) = record {
        source_in = step.nearest.there;
        via_in = is.there;
        earlier = omega (arith, rank_here, rank_other o within other, more_room);
        settled = omega (arith, rank_here, more_room);
        carried = is.carried;
        allowed = is.allowed;
        exact = omega (arith, follow.exact lower, step.marked.same_dist here, kept_here);
      } in
      subst (λ before. IsArc network used price new o before (via new o)) (sym (follow.from_here lower)) made

  reached_still : (o : ℕ) → o < options network → o ≢ start → dist new o ≡ dist old o → dist new o < far → IsReached network used price new o
  reached_still o within ne same near =
      let follow = step.followed o within in
      let unchanged : dist new o ≡ dist ranked o = omega (arith, step.marked.same_dist o) in
      let before = step.search.reached o within ne (omega arith) in
      let h = source old o in
      let other : h ≢ here = λ is. absurd (omega (arith, before.settled, step.nearest.open_yet, ap (rank old) is)) in
      let rank_before = rank_other h before.source_in other in
      let later : rank new h < rank new o =
      elim (cases_eq o here) [
        | inl is ↦ omega (arith, rank_before, ap (rank new) is, rank_here, step.search.below h before.source_in before.settled)
        | inr differs ↦ omega (arith, rank_before, rank_other o within differs, before.earlier)
      ] in
      let made : IsArc network used price new o h (via old o) = record {
        source_in = before.source_in;
        via_in = before.via_in;
        earlier = later;
        settled = omega (arith, rank_before, before.settled);
        carried = before.carried;
        allowed = before.allowed;
        exact = omega (arith, before.exact, kept_settled h before.source_in before.settled);
      } in
      let one = subst (λ before. IsArc network used price new o before (via old o)) (sym (follow.kept_source unchanged ∙ step.marked.same_source o)) made in
      subst (λ group. IsArc network used price new o (source new o) group) (sym (follow.kept_via unchanged ∙ step.marked.same_via o)) one

  relaxed_here : IsRelaxed network used price new here
  relaxed_here g k group within carried allowed = by (arc k) refl
    where
      by : (a : Option ℕ) → arc k ≡ a → dist new k + full network price g here ≤ dist new here + full network price g k
      by None is = absurd (subst (λ a. IsLeast network used (size network) here k a) is (step.least k within) g group carried allowed)
      by (Some v) is =
          let least = least_some network used (size network) here k (arc k) v is (step.least k within) in
          omega (
            arith,
            least.least g group carried allowed,
            (step.followed k within).relaxed v is,
            step.marked.same_dist here,
            kept_here,
            full-is network price g here,
            full-is network price g k,
            full-is network price v here,
            full-is network price v k,
          )

  relaxed_before : (o : ℕ) → o < options network → rank old o < options network → IsRelaxed network used price new o
  relaxed_before o within before g k group target carried allowed =
      omega (arith, step.search.relaxed o within before g k group target carried allowed, (step.followed k target).lower, step.marked.same_dist k, kept_settled o within before)

  pub settled_more : IsSearch network used price load new start (settled + 1)
  settled_more = record {
    starts = omega (arith, kept start step.start_in (omega (arith, step.search.starts)), step.search.starts);
    near = λ o within now.
        elim (which o within now) [
          | inl same ↦ omega (arith, ap (dist new) same, kept_here, step.near)
          | inr before ↦ omega (arith, kept_settled o within before, step.search.near o within before)
        ];
    order = λ o k within within_k now not_yet.
        let other : k ≢ here = λ same. absurd (omega (arith, ap (rank new) same, rank_here, more_room)) in
        let above = not_nearer k within_k (omega (arith, rank_other k within_k other)) in
        elim (which o within now) [
          | inl same ↦ omega (arith, ap (dist new) same, kept_here)
          | inr before ↦ omega (arith, kept_settled o within before, step.search.order o here within step.nearest.there before step.nearest.open_yet)
        ];
    reached = λ o within ne near.
        elim (cases_lt (dist new o) (dist old o)) [
          | inl less ↦ reached_anew o within ne less
          | inr same ↦ reached_still o within ne (omega (arith, (step.followed o within).lower, step.marked.same_dist o)) near
        ];
    relaxed = λ o within now.
        elim (which o within now) [
          | inl same ↦ subst (λ here. IsRelaxed network used price new here) (sym same) relaxed_here
          | inr before ↦ relaxed_before o within before
        ];
    below = λ o within now.
        elim (which o within now) [
          | inl same ↦ omega (arith, ap (rank new) same, rank_here)
          | inr before ↦
              elim (cases_eq o here) [
                | inl same ↦ omega (arith, ap (rank new) same, rank_here)
                | inr other ↦ omega (arith, rank_other o within other, step.search.below o within before)
              ]
        ];
    ranks = λ o within.
        elim (cases_eq o here) [
          | inl same ↦ omega (arith, ap (rank new) same, rank_here, more_room)
          | inr other ↦ omega (arith, rank_other o within other, step.search.ranks o within)
        ];
    counted =
        let changed = sum_to-changed_below (options network) (mark (options network) old) (mark (options network) new) here step.nearest.there
        (λ s below ne. ap (λ r. min 1 (options network - r)) (sym (rank_other s below ne))) in
        omega (arith, changed, mark-open (options network) old here step.nearest.open_yet, mark-settled (options network) new here (omega (arith, rank_here, more_room)), step.search.counted);
    busy = λ o within now.
        elim (which o within now) [
          | inl same ↦ subst (λ o. capacity network o ≤ load o) (sym same) step.busy
          | inr before ↦ step.search.busy o within before
        ];
  }
