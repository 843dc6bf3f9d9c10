-- Arcs that are forgotten after a move of pins, and why those that are left are right.
use Rattle.std.proofs.Common.{◌≡◌, ap, length, ℕ, ◌+◌, ◌<◌, ◌≤◌, ◌⊎◌, Option, Some, None, true, false, refl, sym, subst, ◌∙◌, inl, inr, arith}
use Rattle.std.proofs.lemmas.Bool.{cases_eq, false≢true}
use Rattle.flow_planner_net.specs.Networks.{NetworkParts, options, size, may}
use Rattle.flow_planner_net.specs.Moves.{IsMoved}
use Rattle.flow_planner_repair.specs.LeastArcs.{ArcsParts, least_of, is_fresh, IsLeast, IsNoLess, AreKept, AreFewer, AreForgotten, IsMarked}

pub fewer_same : (network : NetworkParts) (arcs : ArcsParts) → AreFewer network arcs arcs
fewer_same network arcs = record { least = refl; marks = refl; fresh = λ o k inside is. is }

pub fewer_both : (network : NetworkParts) (a b c : ArcsParts) → AreFewer network a b → AreFewer network b c → AreFewer network a c
fewer_both network a b c first second = record {
  least = second.least ∙ first.least;
  marks = second.marks ∙ first.marks;
  fresh = λ o k inside is. first.fresh o k inside (second.fresh o k inside is);
}

pub forgotten_none : (network : NetworkParts) (used : ℕ → ℕ → ℕ) (arcs : ArcsParts) → AreForgotten network used used arcs arcs
forgotten_none network used arcs = record {
  fewer = fewer_same network arcs;
  stays = λ o k best within inside there right is some. some;
  none_came = λ o k g within inside there right allowed some. inl some;
}

-- two moves, one after the other
pub forgotten_both : (network : NetworkParts) (old middle new : ℕ → ℕ → ℕ) (a b c : ArcsParts) → AreForgotten network old middle a b
    → AreForgotten network middle new b c → AreForgotten network old new a c
forgotten_both network old middle new a b c first second = record {
  fewer = fewer_both network a b c first.fewer second.fewer;
  stays = λ o k best within inside there right is some.
      let still = second.fewer.fresh o k inside right in
      let known : least_of (options network) b.least o k ≡ Some best =
      subst (λ least. least_of (options network) least o k ≡ Some best) (sym first.fewer.least) is in
      second.stays o k best within inside there right known (first.stays o k best within inside there still is some);
  none_came = λ o k g within inside there right allowed some.
      let still = second.fewer.fresh o k inside right in
      elim (second.none_came o k g within inside there right allowed some) [
        | inl earlier ↦ first.none_came o k g within inside there still allowed earlier
        | inr no_less ↦
            inr (subst (λ least. IsNoLess network g o k (least_of (options network) least o k)) first.fewer.least no_less)
      ];
}

module _ (network : NetworkParts) (old new : ℕ → ℕ → ℕ) (source target via q : ℕ) (a b c : ArcsParts) (move : IsMoved (size network) old new source target via q)
    (first : AreFewer network a b) (second : AreFewer network b c)
    (left : new source via ≡ 0 → (k : ℕ) → k < options network → least_of (options network) a.least source k ≡ Some via
    → is_fresh (options network) b.fresh source k ≡ false)
    (come : new target via ≤ q → (k : ℕ) → k < options network → may network via k ≡ true → is_fresh (options network) c.fresh target k ≡ true
    → IsNoLess network via target k (least_of (options network) b.least target k)) where
  stays_via : (o k : ℕ) → k < options network → is_fresh (options network) c.fresh o k ≡ true → least_of (options network) a.least o k ≡ Some via
      → via < size network → 0 < old o via → 0 < new o via
  stays_via o k inside right is there some =
      elim (cases_eq o source) [
        | inl same ↦
            elim (cases_eq (new source via) 0) [
              | inl none ↦
                  let stale : is_fresh (options network) b.fresh o k ≡ false =
                  rw same (left none k inside (subst (λ o. least_of (options network) a.least o k ≡ Some via) same is)) in
                  absurd (false≢true (sym stale ∙ second.fresh o k inside right))
              | inr more ↦ subst (λ o. 0 < new o via) (sym same) (omega arith)
            ]
        | inr other ↦
            elim (cases_eq o target) [
              | inl same ↦ let given : new o via ≡ old o via + q = rw same move.given in omega arith
              | inr another ↦ omega (arith, move.other_options o via there other another)
            ]
      ]

  came_via : (o k : ℕ) → k < options network → is_fresh (options network) c.fresh o k ≡ true → may network via k ≡ true → via < size network
      → 0 < new o via → (0 < old o via) ⊎ IsNoLess network via o k (least_of (options network) a.least o k)
  came_via o k inside right allowed there some =
      elim (cases_eq o target) [
        | inl same ↦
            elim (cases_eq (old target via) 0) [
              | inl none ↦
                  let still = subst (λ o. is_fresh (options network) c.fresh o k ≡ true) same right in
                  let kept = come (omega (arith, move.given)) k inside allowed still in
                  let first_kept = subst (λ least. IsNoLess network via target k (least_of (options network) least target k)) first.least kept in
                  inr (subst (λ o. IsNoLess network via o k (least_of (options network) a.least o k)) (sym same) first_kept)
              | inr more ↦ inl (subst (λ o. 0 < old o via) (sym same) (omega arith))
            ]
        | inr other ↦
            elim (cases_eq o source) [
              | inl same ↦ let taken : new o via + q ≡ old o via = rw same move.taken in inl (omega arith)
              | inr another ↦ inl (omega (arith, move.other_options o via there another other))
            ]
      ]

  pub forgotten_move : AreForgotten network old new a c
  forgotten_move = record {
    fewer = fewer_both network a b c first second;
    stays = λ o k best within inside there right is some.
        elim (cases_eq best via) [
          | inl same ↦
              subst (λ g. 0 < new o g) (sym same)
              (stays_via o k inside right (subst (λ g. least_of (options network) a.least o k ≡ Some g) same is) (omega arith) (subst (λ g. 0 < old o g) same some))
          | inr other ↦ omega (arith, move.other_groups o best there other)
        ];
    none_came = λ o k g within inside there right allowed some.
        elim (cases_eq g via) [
          | inl same ↦
              subst (λ g. (0 < old o g) ⊎ IsNoLess network g o k (least_of (options network) a.least o k)) (sym same)
              (came_via o k inside right (subst (λ g. may network g k ≡ true) same allowed) (omega arith) (subst (λ g. 0 < new o g) same some))
          | inr other ↦ inl (omega (arith, move.other_groups o g there other))
        ];
  }

-- least arcs stay least where their group stays and none came that is less
least-stays : (network : NetworkParts) (old new : ℕ → ℕ → ℕ) (o k : ℕ) (arc : Option ℕ)
    → ((best : ℕ) → arc ≡ Some best → best < size network → 0 < old o best → 0 < new o best)
    → ((g : ℕ) → g < size network → may network g k ≡ true → 0 < new o g → (0 < old o g) ⊎ IsNoLess network g o k arc)
    → IsLeast network old (size network) o k arc → IsLeast network new (size network) o k arc
least-stays network old new o k None stays came least = λ g group carried allowed.
    elim (came g group allowed carried) [
      | inl some ↦ least g group some allowed
      | inr never ↦ never
    ]
least-stays network old new o k (Some best) stays came least = record {
  there = least.there;
  carried = stays best refl least.there least.carried;
  allowed = least.allowed;
  least = λ g group carried allowed.
      elim (came g group allowed carried) [
        | inl some ↦ least.least g group some allowed
        | inr no_less ↦ no_less
      ];
}

pub forgotten_kept : (network : NetworkParts) (old new : ℕ → ℕ → ℕ) (before after : ArcsParts) → AreForgotten network old new before after
    → AreKept network old before → AreKept network new after
forgotten_kept network old new before after forgotten kept o k within inside right =
    let was = kept o k within inside (forgotten.fewer.fresh o k inside right) in
    let now = least-stays network old new o k (least_of (options network) before.least o k)
    (λ best is there some. forgotten.stays o k best within inside there right is some)
    (λ g there allowed some. forgotten.none_came o k g within inside there right allowed some) was in
    subst (λ least. IsLeast network new (size network) o k (least_of (options network) least o k)) (sym forgotten.fewer.least) now

-- one arc more that isn't right
pub fewer_marked : (network : NetworkParts) (a b c : ArcsParts) (o k : ℕ) → AreFewer network a b → c.least ≡ b.least → length c.fresh ≡ length b.fresh
    → IsMarked (options network) b.fresh c.fresh o k false → AreFewer network a c
fewer_marked network a b c o k first least marks set = record {
  least = least ∙ first.least;
  marks = marks ∙ first.marks;
  fresh = λ p t inside is.
      elim (cases_eq p o) [
        | inr other ↦ first.fresh p t inside (sym (set.other_options p t inside other) ∙ is)
        | inl same ↦
            elim (cases_eq t k) [
              | inr other ↦ first.fresh p t inside (sym (set.other_targets p t inside other) ∙ is)
              | inl here ↦
                  let stale : is_fresh (options network) c.fresh p t ≡ false = rw (same, here) set.here in
                  absurd (false≢true (sym stale ∙ is))
            ]
      ];
}

-- a look changes none
pub fewer_looked : (network : NetworkParts) (a b c : ArcsParts) → AreFewer network a b → c.least ≡ b.least → c.fresh ≡ b.fresh → AreFewer network a c
fewer_looked network a b c first least fresh = record {
  least = least ∙ first.least;
  marks = ap length fresh ∙ first.marks;
  fresh = λ o k inside is. first.fresh o k inside (subst (λ fresh. is_fresh (options network) fresh o k ≡ true) fresh is);
}
