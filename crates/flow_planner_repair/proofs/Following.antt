-- Arcs followed from one option, one target after another.
use Rattle.std.proofs.Common.{◌≡◌, get_or, set, Some, None, Option, ℕ, ◌+◌, ◌<◌, ◌≤◌, ◌≢◌, List, length, refl, sym, ap, ◌∙◌, subst, inl, inr, arith}
use Rattle.std.proofs.lemmas.Bool.{cases_eq, cases_lt}
use Rattle.flow_planner_net.specs.Networks.{NetworkParts}
use Rattle.flow_planner_net.specs.States.{full}
use Rattle.flow_planner_repair.specs.declared.label.Label.{Label}
use Rattle.flow_planner_repair.specs.Searches.{no_label, dist, via, rank, IsFollowed}
use Rattle.flow_planner_repair.proofs.Labels.{IsSameAt, label-same, label-kept}

-- where no arc leads, nothing changes
pub followed_none : (network : NetworkParts) (price : ℕ → ℕ) (here : ℕ) (old new : List Label) (o : ℕ) → IsSameAt old new o → IsFollowed network price None here old new o
followed_none network price here old new o same = record {
  rank = same.same_rank;
  lower = omega (arith, same.same_dist);
  kept_source = λ _. same.same_source;
  kept_via = λ _. same.same_via;
  relaxed = λ g is. absurd cc;
  by_arc = λ less. absurd (omega (arith, same.same_dist));
  from_here = λ less. absurd (omega (arith, same.same_dist));
  exact = λ less. absurd (omega (arith, same.same_dist));
}

-- an arc that is no shorter way changes nothing
pub followed_longer : (network : NetworkParts) (price : ℕ → ℕ) (group here : ℕ) (labels : List Label) (o : ℕ)
    → dist labels o + full network price group here ≤ dist labels here + full network price group o
    → IsFollowed network price (Some group) here labels labels o
followed_longer network price group here labels o longer = record {
  rank = refl;
  lower = omega arith;
  kept_source = λ _. refl;
  kept_via = λ _. refl;
  relaxed = λ g is. let same : group ≡ g = cc in rw (← same) longer;
  by_arc = λ less. absurd (omega arith);
  from_here = λ less. absurd (omega arith);
  exact = λ less. absurd (omega arith);
}

-- an arc that is a shorter way is written down
pub followed_shorter : (network : NetworkParts) (price : ℕ → ℕ) (group here : ℕ) (labels : List Label) (o : ℕ) (label : Label) → o < length labels
    → label.dist + full network price group here ≡ dist labels here + full network price group o → label.dist < dist labels o
    → label.source ≡ here → label.via ≡ group → label.rank ≡ rank labels o
    → IsFollowed network price (Some group) here labels (set labels o label) o
followed_shorter network price group here labels o label within exact shorter from by same_rank =
    let now = label-same labels o label within in
    let new = set labels o label in
    let here_via : via new o ≡ group = now.is_via ∙ by in
    record {
      rank = now.is_rank ∙ same_rank;
      lower = omega (arith, now.is_dist);
      kept_source = λ same. absurd (omega (arith, now.is_dist));
      kept_via = λ same. absurd (omega (arith, now.is_dist));
      relaxed = λ g is. let same : group ≡ g = cc in rw (← same, now.is_dist) (omega arith);
      by_arc = λ less. ap (λ g. Some g) (sym here_via);
      from_here = λ less. now.is_source ∙ from;
      exact = λ less. rw (here_via, now.is_dist) exact;
    }

-- what was followed from labels that are the same at both ends
pub followed_from : (network : NetworkParts) (price : ℕ → ℕ) (arc : Option ℕ) (here : ℕ) (old middle new : List Label) (o : ℕ)
    → IsSameAt old middle o → dist middle here ≡ dist old here → IsFollowed network price arc here middle new o → IsFollowed network price arc here old new o
followed_from network price arc here old middle new o same near follow = record {
  rank = follow.rank ∙ same.same_rank;
  lower = omega (arith, follow.lower, same.same_dist);
  kept_source = λ is. follow.kept_source (omega (arith, same.same_dist)) ∙ same.same_source;
  kept_via = λ is. follow.kept_via (omega (arith, same.same_dist)) ∙ same.same_via;
  relaxed = λ g is. omega (arith, follow.relaxed g is);
  by_arc = λ less. follow.by_arc (omega (arith, same.same_dist));
  from_here = λ less. follow.from_here (omega (arith, same.same_dist));
  exact = λ less. omega (arith, follow.exact (omega (arith, same.same_dist)));
}

-- what was followed stays so while the label stays
pub followed_still : (network : NetworkParts) (price : ℕ → ℕ) (arc : Option ℕ) (here : ℕ) (old middle new : List Label) (o : ℕ)
    → IsSameAt middle new o → IsFollowed network price arc here old middle o → IsFollowed network price arc here old new o
followed_still network price arc here old middle new o same follow = record {
  rank = same.same_rank ∙ follow.rank;
  lower = omega (arith, follow.lower, same.same_dist);
  kept_source = λ is. same.same_source ∙ follow.kept_source (omega (arith, same.same_dist));
  kept_via = λ is. same.same_via ∙ follow.kept_via (omega (arith, same.same_dist));
  relaxed = λ g is. omega (arith, follow.relaxed g is, same.same_dist);
  by_arc = λ less. follow.by_arc (omega (arith, same.same_dist)) ∙ ap (λ g. Some g) (sym same.same_via);
  from_here = λ less. same.same_source ∙ follow.from_here (omega (arith, same.same_dist));
  exact = λ less. rw same.same_via (omega (arith, follow.exact (omega (arith, same.same_dist)), same.same_dist));
}

-- the option from which arcs are followed keeps its distance
pub followed_here : (network : NetworkParts) (price : ℕ → ℕ) (group here : ℕ) (old new : List Label) → IsFollowed network price (Some group) here old new here
    → dist new here ≡ dist old here
followed_here network price group here old new follow =
    elim (cases_lt (dist new here) (dist old here)) [
      | inl less ↦ absurd (omega (arith, follow.exact less))
      | inr same ↦ omega (arith, follow.lower)
    ]

-- the labels while the arcs to the first options are followed
pub record AreFollowed (network : NetworkParts) (price : ℕ → ℕ) (arc : ℕ → Option ℕ) (here : ℕ) (old new : List Label) (n targets : ℕ) : Type 0 where
  pub len : length new ≡ length old
  pub near : dist new here ≡ dist old here
  pub done : (o : ℕ) → o < targets → IsFollowed network price (arc o) here old new o
  pub rest : (o : ℕ) → targets ≤ o → IsSameAt old new o

pub followed_more : (network : NetworkParts) (price : ℕ → ℕ) (arc : ℕ → Option ℕ) (here : ℕ) (old middle new : List Label) (n target group : ℕ)
    → arc target ≡ Some group → length new ≡ length middle → ((o : ℕ) → o ≢ target → get_or new o no_label ≡ get_or middle o no_label)
    → IsFollowed network price (Some group) here middle new target
    → AreFollowed network price arc here old middle n target → AreFollowed network price arc here old new n (target + 1)
followed_more network price arc here old middle new n target group is len others follow before = record {
  len = len ∙ before.len;
  near =
      elim (cases_eq here target) [
        | inl same ↦ followed_here network price group here middle new (subst (λ o. IsFollowed network price (Some group) here middle new o) (sym same) follow) ∙ before.near
        | inr other ↦ (label-kept middle new here (others here other)).same_dist ∙ before.near
      ];
  done = λ o below.
      elim (cases_eq o target) [
        | inl same ↦
            let here_too = followed_from network price (Some group) here old middle new target (before.rest target (omega arith)) before.near follow in
            subst (λ o. IsFollowed network price (arc o) here old new o) (sym same) (subst (λ a. IsFollowed network price a here old new target) (sym is) here_too)
        | inr other ↦ followed_still network price (arc o) here old middle new o (label-kept middle new o (others o other)) (before.done o (omega arith))
      ];
  rest = λ o above.
      let now = label-kept middle new o (others o (omega arith)) in
      let was = before.rest o (omega arith) in
      record {
        same_dist = now.same_dist ∙ was.same_dist;
        same_source = now.same_source ∙ was.same_source;
        same_via = now.same_via ∙ was.same_via;
        same_rank = now.same_rank ∙ was.same_rank;
      };
}

pub followed_past : (network : NetworkParts) (price : ℕ → ℕ) (arc : ℕ → Option ℕ) (here : ℕ) (old new : List Label) (n target : ℕ)
    → arc target ≡ None → AreFollowed network price arc here old new n target → AreFollowed network price arc here old new n (target + 1)
followed_past network price arc here old new n target is before = record {
  len = before.len;
  near = before.near;
  done = λ o below.
      elim (cases_eq o target) [
        | inl same ↦
            let nothing = followed_none network price here old new target (before.rest target (omega arith)) in
            subst (λ o. IsFollowed network price (arc o) here old new o) (sym same) (subst (λ a. IsFollowed network price a here old new target) (sym is) nothing)
        | inr other ↦ before.done o (omega arith)
      ];
  rest = λ o above. before.rest o (omega arith);
}

pub followed_start : (network : NetworkParts) (price : ℕ → ℕ) (arc : ℕ → Option ℕ) (here : ℕ) (labels : List Label) (n : ℕ) → AreFollowed network price arc here labels labels n 0
followed_start network price arc here labels n = record {
  len = refl;
  near = refl;
  done = λ o below. absurd (omega arith);
  rest = λ o above. label-kept labels labels o refl;
}
