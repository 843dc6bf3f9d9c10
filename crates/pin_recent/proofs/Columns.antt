-- The entries of the map as pairs and as numbers.
use Rattle.std.proofs.Common.{◌≡◌, ◌≢◌, ℕ, zero, suc, ◌<◌, Bool, true, false, List, [], ◌∷◌, length, set, get_or, position, None, Some, slice_get, option_map, refl, sym, ap, ◌∙◌, subst, true≢false, arith}
use Rattle.std.proofs.lemmas.Option.{none-some, same_Some, slice_get-map}
use Rattle.std.proofs.lemmas.Map.{none_passes_from_lookup, NonePasses}
use Rattle.std.proofs.lemmas.List.Quantifiers.{position-Some}
use Rattle.std.proofs.lemmas.Map.Entries.{length-keys_of}
use Rattle.std.specs.Cmp.{IsEquivalence}
use Rattle.std.specs.List.{IsDistinct, AllByRecursion}
use Rattle.std.specs.Map.{keys_of, lookup}
use Rattle.indexmap.specs.Layout.{set_value_at}
use Rattle.pin_recent.specs.declared.stamped.Stamped.{Stamped}
use Rattle.pin_recent.specs.Sound.{bare, numbers, OnlyAt, Nowhere}
use Rattle.pin_recent.proofs.Places.{at_below}

module _ {K V : Type 0} where
  pub length-bare : (es : List (K × Stamped V)) → length (bare es) ≡ length es
  length-bare [] = refl
  length-bare (e ∷ es) = ap suc (length-bare es)

  pub length-numbers : (es : List (K × Stamped V)) → length (numbers es) ≡ length es
  length-numbers [] = refl
  length-numbers (e ∷ es) = ap suc (length-numbers es)

  pub bare_at : (es : List (K × Stamped V)) (i : ℕ) (e : K × Stamped V) → slice_get es i ≡ Some e → slice_get (bare es) i ≡ Some (e.0, e.1.value)
  bare_at es i e at = slice_get-map (λ (f : K × Stamped V). (f.0, f.1.value)) es i ∙ ap (option_map (λ (f : K × Stamped V). (f.0, f.1.value))) at

  pub number_at : (es : List (K × Stamped V)) (i : ℕ) (e : K × Stamped V) → slice_get es i ≡ Some e → slice_get (numbers es) i ≡ Some e.1.number
  number_at es i e at = slice_get-map (λ (f : K × Stamped V). f.1.number) es i ∙ ap (option_map (λ (f : K × Stamped V). f.1.number)) at

  pub number_none : (es : List (K × Stamped V)) (i : ℕ) → slice_get es i ≡ None → slice_get (numbers es) i ≡ None
  number_none es i none = slice_get-map (λ (f : K × Stamped V). f.1.number) es i ∙ ap (option_map (λ (f : K × Stamped V). f.1.number)) none

  -- a write to one value
  pub numbers-set : (es : List (K × Stamped V)) (i : ℕ) (w : Stamped V) → numbers (set_value_at es i w) ≡ set (numbers es) i w.number
  numbers-set [] i w = refl
  numbers-set (e ∷ es) zero w = refl
  numbers-set (e ∷ es) (suc i) w = ap (λ l. e.1.number ∷ l) (numbers-set es i w)

  pub bare-set : (es : List (K × Stamped V)) (i : ℕ) (w : Stamped V) → bare (set_value_at es i w) ≡ set_value_at (bare es) i w.value
  bare-set [] i w = refl
  bare-set (e ∷ es) zero w = refl
  bare-set (e ∷ es) (suc i) w = ap (λ l. (e.0, e.1.value) ∷ l) (bare-set es i w)

  -- that leaves the value as it was
  pub bare_kept : (es : List (K × Stamped V)) (i : ℕ) (w : Stamped V) (e : K × Stamped V) → slice_get es i ≡ Some e → w.value ≡ e.1.value → bare (set_value_at es i w) ≡ bare es
  bare_kept [] i w e at same = refl
  bare_kept (f ∷ es) zero w e at same = ap (λ v. (f.0, v) ∷ bare es) (same ∙ ap (λ (g : K × Stamped V). g.1.value) (sym (same_Some f e at)))
  bare_kept (f ∷ es) (suc i) w e at same = ap (λ l. (f.0, f.1.value) ∷ l) (bare_kept es i w e at same)

  pub value_here : (ps : List (K × V)) (i : ℕ) (p : K × V) (w : V) → slice_get ps i ≡ Some p → slice_get (set_value_at ps i w) i ≡ Some (p.0, w)
  value_here [] i p w at = absurd (none-some p at)
  value_here (q ∷ ps) zero p w at = ap (λ (r : K × V). Some (r.0, w)) (same_Some q p at)
  value_here (q ∷ ps) (suc i) p w at = value_here ps i p w at

  pub value_else : (ps : List (K × V)) (i j : ℕ) (w : V) → j ≢ i → slice_get (set_value_at ps i w) j ≡ slice_get ps j
  value_else [] i j w apart = refl
  value_else (q ∷ ps) zero zero w apart = absurd (apart refl)
  value_else (q ∷ ps) zero (suc j) w apart = refl
  value_else (q ∷ ps) (suc i) zero w apart = refl
  value_else (q ∷ ps) (suc i) (suc j) w apart = value_else ps i j w (λ e. apart (ap suc e))

  -- keys that differ
  apart_at : (P : K → Type 0) (es : List (K × Stamped V)) (i : ℕ) (p : K × V) → AllByRecursion P (keys_of es) → slice_get (bare es) i ≡ Some p → P p.0
  apart_at P [] i p all at = absurd (none-some p at)
  apart_at P (e ∷ es) zero p all at = subst P (ap (λ (q : K × V). q.0) (same_Some (e.0, e.1.value) p at)) all.0
  apart_at P (e ∷ es) (suc i) p all at = apart_at P es i p all.1 at

  one_key : {eq : K → K → Bool} → IsEquivalence eq → (es : List (K × Stamped V)) (i j : ℕ) (p q : K × V) → IsDistinct eq (keys_of es)
      → slice_get (bare es) i ≡ Some p → slice_get (bare es) j ≡ Some q → eq p.0 q.0 ≡ true → i ≡ j
  unfolding IsDistinct
  one_key laws [] i j p q distinct at_i at_j same = absurd (none-some p at_i)
  one_key laws (e ∷ es) zero zero p q distinct at_i at_j same = refl
  one_key {eq} laws (e ∷ es) zero (suc j) p q distinct at_i at_j same =
      let key : e.0 ≡ p.0 = ap (λ (r : K × V). r.0) (same_Some (e.0, e.1.value) p at_i) in
      absurd (true≢false (sym same ∙ ap (λ k. eq k q.0) (sym key) ∙ apart_at (λ k. eq e.0 k ≡ false) es j q distinct.0 at_j))
  one_key {eq} laws (e ∷ es) (suc i) zero p q distinct at_i at_j same =
      let key : e.0 ≡ q.0 = ap (λ (r : K × V). r.0) (same_Some (e.0, e.1.value) q at_j) in
      absurd (true≢false (sym same ∙ laws.symm p.0 q.0 ∙ ap (λ k. eq k p.0) (sym key) ∙ apart_at (λ k. eq e.0 k ≡ false) es i p distinct.0 at_i))
  one_key laws (e ∷ es) (suc i) (suc j) p q distinct at_i at_j same = ap suc (one_key laws es i j p q distinct.1 at_i at_j same)

  key_at : (es : List (K × Stamped V)) (i : ℕ) (p : K × V) (d : K) → slice_get (bare es) i ≡ Some p → get_or (keys_of es) i d ≡ p.0
  key_at [] i p d at = absurd (none-some p at)
  key_at (e ∷ es) zero p d at = ap (λ (q : K × V). q.0) (same_Some (e.0, e.1.value) p at)
  key_at (e ∷ es) (suc i) p d at = key_at es i p d at

  -- a key that a look-up finds passes there, and nowhere else
  pub only_at : {eq : K → K → Bool} → IsEquivalence eq → (key : K) (es : List (K × Stamped V)) (i : ℕ) → IsDistinct eq (keys_of es)
      → position (eq key) (keys_of es) ≡ Some i → OnlyAt (eq key) i (bare es)
  only_at {eq} laws key es i distinct is = record {
    passes = passes;
    alone = λ j q at pass.
        let within : i < length (keys_of es) = (position-Some (eq key) (keys_of es) i key is).0 in
        let e = at_below (bare es) i (omega (arith, length-bare es, length-keys_of es)) in
        one_key laws es j i q e.0 distinct at e.1 (sym (laws.congr key q.0 e.0.0 pass) ∙ passes e.0 e.1);
  }
    where
      passes : (p : K × V) → slice_get (bare es) i ≡ Some p → eq key p.0 ≡ true
      passes p at = ap (eq key) (sym (key_at es i p p.0 at)) ∙ (position-Some (eq key) (keys_of es) i p.0 is).1

  pub nowhere : (test : K → Bool) (es : List (K × Stamped V)) → lookup test es ≡ None → Nowhere test (bare es)
  nowhere test es none i p at = by es i (none_passes_from_lookup test es none) at
    where
      by : (fs : List (K × Stamped V)) (j : ℕ) → NonePasses test fs → slice_get (bare fs) j ≡ Some p → test p.0 ≡ false
      by [] j all at_j = absurd (none-some p at_j)
      by (f ∷ fs) zero all at_j = ap (λ (q : K × V). test q.0) (sym (same_Some (f.0, f.1.value) p at_j)) ∙ all.0
      by (f ∷ fs) (suc j) all at_j = by fs j all.1 at_j
