-- Sums over options and groups.
use Rattle.std.proofs.Common.{◌≡◌, get_or, ℕ, zero, suc, ◌+◌, ◌<◌, ◌≤◌, ◌≢◌, cond, eqb, List, [], ◌∷◌, length, refl, sym, ap, ◌∙◌, inl, inr, arith}
use Rattle.std.specs.List.{sum_by}
use Rattle.std.proofs.lemmas.Bool.{cases_eq, eq-eqb, ne_eqb}
use Rattle.std.proofs.lemmas.List.Sums.{sum_by-cons}
use Rattle.pin_set.specs.Costs.{sum_to}
use Rattle.cert_check_law.proofs.Sums.{sum_to-none, sum_to-suc, sum_to-same, sum_to-zero, sum_to-add, sum_to-changed, le-sum_to}

-- a sum that is not nothing has a term that is not
pub sum_to-some : (n : ℕ) (f : ℕ → ℕ) → 0 < sum_to n f → (k : ℕ) × (k < n) × (0 < f k)
sum_to-some zero f some = absurd (omega (arith, sum_to-none f))
sum_to-some (suc n) f some =
    elim (cases_eq (f n) 0) [
      | inl none ↦
          let before = sum_to-some n f (omega (arith, sum_to-suc n f)) in
          (before.0, omega (arith, before.1), before.2)
      | inr here ↦ (n, omega arith, omega arith)
    ]

-- a sum of ones and noughts, with a nought among them, is less than its number of terms
pub sum_to-below_ones : (n : ℕ) (f : ℕ → ℕ) (k : ℕ) → k < n → ((s : ℕ) → s < n → f s ≤ 1) → f k ≡ 0 → sum_to n f < n
sum_to-below_ones zero f k below ones none = absurd (omega arith)
sum_to-below_ones (suc n) f k below ones none =
    elim (cases_eq k n) [
      | inl same ↦ omega (arith, sum_to-suc n f, ap f same, at_most n f (λ s earlier. ones s (omega arith)))
      | inr other ↦ omega (arith, sum_to-suc n f, ones n (omega arith), sum_to-below_ones n f k (omega arith) (λ s earlier. ones s (omega arith)) none)
    ]
  where
    at_most : (n : ℕ) (f : ℕ → ℕ) → ((s : ℕ) → s < n → f s ≤ 1) → sum_to n f ≤ n
    at_most zero f ones = omega (arith, sum_to-none f)
    at_most (suc n) f ones = omega (arith, sum_to-suc n f, ones n (omega arith), at_most n f (λ s earlier. ones s (omega arith)))

-- two sums whose terms differ at one place alone
pub sum_to-changed_below : (n : ℕ) (f g : ℕ → ℕ) (k : ℕ) → k < n → ((s : ℕ) → s < n → s ≢ k → f s ≡ g s) → sum_to n f + g k ≡ sum_to n g + f k
sum_to-changed_below zero f g k below others = absurd (omega arith)
sum_to-changed_below (suc n) f g k below others =
    elim (cases_eq k n) [
      | inl same ↦
          let before = sum_to-same n f g (λ s earlier. others s (omega arith) (omega arith)) in
          omega (arith, sum_to-suc n f, sum_to-suc n g, ap f same, ap g same)
      | inr other ↦
          omega (arith, sum_to-suc n f, sum_to-suc n g, sum_to-changed_below n f g k (omega arith) (λ s earlier ne. others s (omega arith) ne), others n (omega arith) (omega arith))
    ]

-- two different terms are together at most the sum
pub two-le-sum_to : (n : ℕ) (f : ℕ → ℕ) (a b : ℕ) → a < n → b < n → a ≢ b → f a + f b ≤ sum_to n f
two-le-sum_to zero f a b below_a below_b apart = absurd (omega arith)
two-le-sum_to (suc n) f a b below_a below_b apart =
    elim (cases_eq a n) [
      | inl last ↦ omega (arith, sum_to-suc n f, ap f last, le-sum_to n f b (omega arith))
      | inr other ↦
          elim (cases_eq b n) [
            | inl last ↦ omega (arith, sum_to-suc n f, ap f last, le-sum_to n f a (omega arith))
            | inr another ↦ omega (arith, sum_to-suc n f, two-le-sum_to n f a b (omega arith) (omega arith) apart)
          ]
    ]

-- what one term loses to another leaves the sum as it is
pub sum_to-moved : (n : ℕ) (f g : ℕ → ℕ) (a b q : ℕ) → a < n → b < n → a ≢ b → g a + q ≡ f a → g b ≡ f b + q
    → ((s : ℕ) → s ≢ a → s ≢ b → g s ≡ f s) → sum_to n g ≡ sum_to n f
sum_to-moved n f g a b q below_a below_b apart taken given others =
    let h : ℕ → ℕ = λ s. cond (eqb s a) (g a) (f s) in
    let at_a : h a ≡ g a = rw (eq-eqb a a refl) refl in
    let off_a : (s : ℕ) → s ≢ a → h s ≡ f s = λ s ne. rw (ne_eqb s a ne) refl in
    let off_b : (s : ℕ) → s ≢ b → h s ≡ g s = λ s ne.
    elim (cases_eq s a) [
      | inl same ↦ rw same at_a
      | inr other ↦ off_a s other ∙ sym (others s other ne)
    ] in
    let first = sum_to-changed n f h a below_a (λ s ne. sym (off_a s ne)) in
    let second = sum_to-changed n h g b below_b off_b in
    let there = off_a b (λ same. apart (sym same)) in
    omega arith

-- a sum of sums, either way round
pub sum_to-exchange : (m n : ℕ) (f : ℕ → ℕ → ℕ) → sum_to m (λ o. sum_to n (f o)) ≡ sum_to n (λ g. sum_to m (λ o. f o g))
sum_to-exchange zero n f =
    sum_to-none (λ o. sum_to n (f o)) ∙ sym (sum_to-zero n (λ g. sum_to 0 (λ o. f o g)) (λ g below. sum_to-none (λ o. f o g)))
sum_to-exchange (suc m) n f =
    sum_to-suc m (λ o. sum_to n (f o))
    ∙ (ap (λ k. k + sum_to n (f m)) (sum_to-exchange m n f)
    ∙ (sym (sum_to-add n (λ g. sum_to m (λ o. f o g)) (f m))
    ∙ sym (sum_to-same n (λ g. sum_to (suc m) (λ o. f o g)) (λ g. sum_to m (λ o. f o g) + f m g) (λ g below. sum_to-suc m (λ o. f o g)))))

-- the first term, and the others
pub sum_to-first : (n : ℕ) (f : ℕ → ℕ) → sum_to (suc n) f ≡ f 0 + sum_to n (λ s. f (suc s))
sum_to-first zero f = omega (arith, sum_to-suc 0 f, sum_to-none f, sum_to-none (λ s. f (suc s)))
sum_to-first (suc n) f = omega (arith, sum_to-suc (suc n) f, sum_to-suc n (λ s. f (suc s)), sum_to-first n f)

-- a sum over a list, by the elements' numbers
pub sum_to-list : {X : Type 0} (f : X → ℕ) (d : X) (xs : List X) → sum_to (length xs) (λ i. f (get_or xs i d)) ≡ sum_by f xs
sum_to-list f d [] = sum_to-none (λ i. f (get_or [] i d))
sum_to-list f d (x ∷ xs) =
    omega (arith, sum_to-first (length xs) (λ i. f (get_or (x ∷ xs) i d)), sum_by-cons f x xs, sum_to-list f d xs)
