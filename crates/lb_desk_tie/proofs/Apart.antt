-- No two receipts have one number.
use Rattle.std.proofs.Common.{◌≡◌, ◌≢◌, ⊎_elim, ℕ, zero, suc, ◌+◌, ◌≤◌, List, [], ◌∷◌, length, Some, refl, sym, ap, ◌∙◌, subst, arith}
use Rattle.std.specs.Prelude.{slice_get}
use Rattle.std.proofs.lemmas.Bool.{cases_eq}
use Rattle.std.proofs.lemmas.Bool.Decides.{nat_tests}
use Rattle.lb_desk_tie.specs.Receipts.{total, one_if_same, one_if_below, times, times_in, Shares, AreApart}

module _ {A : Type 0} where
  some_same : (x y : A) → Some x ≡ Some y → x ≡ y
  some_same x y e = cc

  get_total : (f : A → ℕ) (xs : List A) (k : ℕ) (x : A) → slice_get xs k ≡ Some x → f x ≤ total f xs
  get_total f [] k x at = absurd (cc)
  get_total f (z ∷ zs) zero x at = let same : f z ≡ f x = ap f (some_same z x at) in omega arith
  get_total f (z ∷ zs) (suc k) x at = omega (arith, get_total f zs k x at)

  -- two places weigh no more than all
  get_two : (f : A → ℕ) (xs : List A) (k m : ℕ) (x y : A) → slice_get xs k ≡ Some x → slice_get xs m ≡ Some y → k ≢ m → f x + f y ≤ total f xs
  get_two f [] k m x y at there apart = absurd (cc)
  get_two f (z ∷ zs) zero zero x y at there apart = absurd (apart refl)
  get_two f (z ∷ zs) zero (suc m) x y at there apart = let same : f z ≡ f x = ap f (some_same z x at) in omega (arith, get_total f zs m y there)
  get_two f (z ∷ zs) (suc k) zero x y at there apart = let same : f z ≡ f y = ap f (some_same z y there) in omega (arith, get_total f zs k x at)
  get_two f (z ∷ zs) (suc k) (suc m) x y at there apart = omega (arith, get_two f zs k m x y at there (λ e. apart (ap suc e)))

one_same : (x y : ℕ) → x ≡ y → one_if_same x y ≡ 1
one_same x y same = grind (arith, nat_tests)

at_most_one : (x n : ℕ) → one_if_below x n ≤ 1
at_most_one x n = grind (arith, nat_tests)

module _ {E : Type 0} where
  -- a receipt counts in its list
  counted_once : (list : List (ℕ × E)) (k x : ℕ) (p : ℕ × E) → slice_get list k ≡ Some p → p.0 ≡ x → 1 ≤ times x list
  counted_once list k x p at is =
      let here : one_if_same p.0 x ≤ times x list = get_total (λ (r : ℕ × E). one_if_same r.0 x) list k p at in
      omega (arith, one_same p.0 x is)

  pub apart : (history : List E) (lists : List (List (ℕ × E))) → Shares history lists → AreApart lists
  apart history lists share i k j m p q first second same =
      let x : ℕ = p.0 in
      let most : times_in p.0 lists ≤ 1 = omega (arith, share.once p.0, at_most_one p.0 (length history)) in
      ⊎_elim
      (λ (e : i ≡ j).
      let lists_same : first.0 ≡ second.0 = some_same first.0 second.0 (sym first.1 ∙ ap (slice_get lists) e ∙ second.1) in
      let there : slice_get first.0 m ≡ Some q = subst (λ (l : List (ℕ × E)). slice_get l m ≡ Some q) (sym lists_same) second.2 in
      ⊎_elim
      (λ (e' : k ≡ m). (e, e'))
      (λ (ne : k ≢ m).
      let two : one_if_same p.0 p.0 + one_if_same q.0 p.0 ≤ times p.0 first.0 = get_two (λ (r : ℕ × E). one_if_same r.0 p.0) first.0 k m p q first.2 there ne in
      let all : times p.0 first.0 ≤ times_in p.0 lists = get_total (times p.0) lists i first.0 first.1 in
      absurd (omega (arith, one_same p.0 p.0 refl, one_same q.0 p.0 (sym same))))
      (cases_eq k m))
      (λ (ne : i ≢ j).
      let two : times p.0 first.0 + times p.0 second.0 ≤ times_in p.0 lists = get_two (times p.0) lists i j first.0 second.0 first.1 second.1 ne in
      absurd (omega (arith, counted_once first.0 k p.0 p first.2 refl, counted_once second.0 m p.0 q second.2 (sym same))))
      (cases_eq i j)
