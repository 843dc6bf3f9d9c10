-- Values that are changed one after another.
use Rattle.std.proofs.Common.{◌≡◌, ℕ, zero, suc, ◌+◌, List, [], ◌∷◌, ◌++◌, length, map, set, Some, slice_get, refl, sym, ap, subst, ◌∙◌, append_assoc, arith}
use Rattle.std.proofs.lemmas.Option.{none-some, same_Some}
use Rattle.std.proofs.lemmas.List.{map-append, length-append, length-map, append-nil}
use Rattle.indexmap.specs.Layout.{set_value_at}
use Rattle.pin_recent.specs.Recent.{Asks, MayChange, given}
use Rattle.pin_recent.specs.Sound.{IsPassed}

module _ {A : Type 0} where
  -- what stands behind the first ones
  pub first_behind : (xs rest : List A) → slice_get (xs ++ rest) (length xs) ≡ slice_get rest 0
  first_behind [] rest = refl
  first_behind (x ∷ xs) rest = first_behind xs rest

  -- a write of what stands there
  pub set_same : (xs : List A) (i : ℕ) (x : A) → slice_get xs i ≡ Some x → set xs i x ≡ xs
  set_same [] i x at = refl
  set_same (y ∷ xs) zero x at = ap (λ z. z ∷ xs) (sym (same_Some y x at))
  set_same (y ∷ xs) (suc i) x at = ap (λ l. y ∷ l) (set_same xs i x at)

module _ {K V : Type 0} where
  value_behind : (ps : List (K × V)) (p : K × V) (more : List (K × V)) (value : V)
      → set_value_at (ps ++ p ∷ more) (length ps) value ≡ ps ++ (p.0, value) ∷ more
  value_behind [] p more value = refl
  value_behind (q ∷ ps) p more value = ap (λ l. q ∷ l) (value_behind ps p more value)

module _ {C K V : Type 0} (accepts : C → K → V → Type 0) (changes : C → K → V → V → C → Type 0) where
  -- one more is asked for behind the others
  asks_more : (first : C) (asked : List ((K × V) × V)) (state : C) (c : (K × V) × V) (next : C) → Asks changes first asked state
      → changes state c.0.0 c.0.1 c.1 next → Asks changes first (asked ++ c ∷ []) next
  asks_more first [] state c next asks changed = (next, subst (λ s. changes s c.0.0 c.0.1 c.1 next) asks changed, refl)
  asks_more first (a ∷ asked) state c next asks changed = (asks.0, asks.1, asks_more asks.0 asked state c next asks.2 changed)

  -- the first pairs were asked for, and the rest may be
  pub record Passing (first : C) (old : List (K × V)) (place : ℕ) (state : C) (now : List (K × V)) : Type 0 where
    pub passed : List ((K × V) × V)
    pub rest : List (K × V)
    pub far : length passed ≡ place
    pub was : map (λ c. c.0) passed ++ rest ≡ old
    pub is : map given passed ++ rest ≡ now
    pub asks : Asks changes first passed state
    pub may : MayChange accepts changes state rest

  pub passing_start : (first : C) (old : List (K × V)) → MayChange accepts changes first old → Passing first old 0 first old
  passing_start first old may = record { passed = []; rest = old; far = refl; was = refl; is = refl; asks = refl; may = may }

  -- the pair at the place is the first of the rest
  module _ (first : C) (old : List (K × V)) (place : ℕ) (state : C) (now : List (K × V)) (p : K × V) (t : Passing first old place state now)
      (at : slice_get now place ≡ Some p) where
    there : slice_get t.rest 0 ≡ Some p
    there =
        sym (first_behind (map given t.passed) t.rest)
        ∙ ap (λ l. slice_get l (length (map given t.passed))) t.is
        ∙ ap (slice_get now) (length-map t.passed given ∙ t.far)
        ∙ at

    next_rest : (more : List (K × V)) × (t.rest ≡ p ∷ more)
    next_rest = by t.rest there
      where
        by : (l : List (K × V)) → slice_get l 0 ≡ Some p → (more : List (K × V)) × (l ≡ p ∷ more)
        by [] e = absurd (none-some p e)
        by (q ∷ more) e = (more, ap (λ r. r ∷ more) (same_Some q p e))

    pub passing_may : accepts state p.0 p.1
    passing_may = (subst (MayChange accepts changes state) next_rest.1 t.may).0

    pub passing_more : (value : V) (next : C) → changes state p.0 p.1 value next → Passing first old (place + 1) next (set_value_at now place value)
    passing_more value next changed =
        let more = next_rest.0 in
        let c : (K × V) × V = (p, value) in
        record {
          passed = t.passed ++ c ∷ [];
          rest = more;
          far = omega (arith, length-append t.passed (c ∷ []), t.far);
          was = ap (λ l. l ++ more) (map-append (λ (d : (K × V) × V). d.0) t.passed (c ∷ []))
              ∙ append_assoc (map (λ (d : (K × V) × V). d.0) t.passed) (p ∷ []) more
              ∙ ap (λ l. map (λ (d : (K × V) × V). d.0) t.passed ++ l) (sym next_rest.1)
              ∙ t.was;
          is = ap (λ l. l ++ more) (map-append given t.passed (c ∷ []))
              ∙ append_assoc (map given t.passed) (given c ∷ []) more
              ∙ sym (value_behind (map given t.passed) p more value)
              ∙ ap (λ l. set_value_at l (length (map given t.passed)) value) (ap (λ l. map given t.passed ++ l) (sym next_rest.1) ∙ t.is)
              ∙ ap (λ n. set_value_at now n value) (length-map t.passed given ∙ t.far);
          asks = asks_more first t.passed state c next t.asks changed;
          may = (subst (MayChange accepts changes state) next_rest.1 t.may).1 value next changed;
        }

  -- at the last place all are passed
  pub passing_end : (first : C) (old : List (K × V)) (place : ℕ) (state : C) (now : List (K × V)) → Passing first old place state now → length old ≡ place
      → IsPassed changes first state old now
  passing_end first old place state now t whole =
      let none : t.rest ≡ [] = by t.rest (omega (arith, ap length t.was, length-append (map (λ (d : (K × V) × V). d.0) t.passed) t.rest, length-map t.passed (λ (d : (K × V) × V). d.0), t.far)) in
      record {
        passed = t.passed;
        was = sym (append-nil (map (λ (d : (K × V) × V). d.0) t.passed)) ∙ ap (λ l. map (λ (d : (K × V) × V). d.0) t.passed ++ l) (sym none) ∙ t.was;
        is = sym (append-nil (map given t.passed)) ∙ ap (λ l. map given t.passed ++ l) (sym none) ∙ t.is;
        asks = t.asks;
      }
    where
      by : (l : List (K × V)) → length l ≡ 0 → l ≡ []
      by [] e = refl
      by (q ∷ l) e = absurd (omega arith)
