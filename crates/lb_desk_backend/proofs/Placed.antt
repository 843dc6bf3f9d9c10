-- What is so of each element of a list and its place.
use Rattle.std.proofs.Common.{◌≡◌, ℕ, zero, suc, ◌+◌, List, [], ◌∷◌, ◌++◌, length, Some, slice_get, sym, subst, arith}
use Rattle.std.proofs.lemmas.Option.{none-some, same_Some}

module _ {S : Type 0} where
  pushed_from : (Is : ℕ → S → Type 0) (n : ℕ) (all : List S) (next : S)
      → ((place : ℕ) (one : S) → slice_get all place ≡ Some one → Is (n + place) one) → Is (n + length all) next
      → (place : ℕ) (one : S) → slice_get (all ++ next ∷ []) place ≡ Some one → Is (n + place) one
  pushed_from Is n [] next are is zero one at = subst (λ (s : S). Is (n + zero) s) (same_Some next one at) is
  pushed_from Is n [] next are is (suc place) one at = absurd (none-some one at)
  pushed_from Is n (x ∷ xs) next are is zero one at = are zero one at
  pushed_from Is n (x ∷ xs) next are is (suc place) one at =
      let there : (n + 1) + place ≡ n + suc place = omega arith in
      let last : n + length (x ∷ xs) ≡ (n + 1) + length xs = omega arith in
      subst (λ (m : ℕ). Is m one) there
      (pushed_from Is (n + 1) xs next (λ p o here.
      let moved : n + suc p ≡ (n + 1) + p = omega arith in
      subst (λ (m : ℕ). Is m o) moved (are (suc p) o here)) (subst (λ (m : ℕ). Is m next) last is) place one at)

  -- it is so of the elements, and of one more at the end
  pub pushed : (Is : ℕ → S → Type 0) (all : List S) (next : S) → ((place : ℕ) (one : S) → slice_get all place ≡ Some one → Is place one)
      → Is (length all) next → (place : ℕ) (one : S) → slice_get (all ++ next ∷ []) place ≡ Some one → Is place one
  pushed Is all next are is place one at =
      let there : 0 + place ≡ place = omega arith in
      let last : length all ≡ 0 + length all = omega arith in
      subst (λ (m : ℕ). Is m one) there
      (pushed_from Is 0 all next (λ p o here.
      let moved : p ≡ 0 + p = omega arith in
      subst (λ (m : ℕ). Is m o) moved (are p o here)) (subst (λ (m : ℕ). Is m next) last is) place one at)
