-- What stands before and after the first element that passes, one element more at the front.
use Rattle.std.proofs.Common.{◌≡◌, ℕ, suc, ◌+◌, Bool, true, false, List, [], ◌∷◌, take, drop, refl, ap, ◌∙◌, arith}
use Rattle.std.specs.List.{before_first, after_first, position_or_len}

module _ {X : Type 0} where
  pub take_one : (n : ℕ) (x : X) (xs : List X) → take (1 + n) (x ∷ xs) ≡ x ∷ take n xs
  take_one n x xs = let size : 1 + n ≡ suc n = omega arith in ap (λ m. take m (x ∷ xs)) size

  pub drop_one : (n : ℕ) (x : X) (xs : List X) → drop (1 + n) (x ∷ xs) ≡ drop n xs
  drop_one n x xs = let size : 1 + n ≡ suc n = omega arith in ap (λ m. drop m (x ∷ xs)) size

module _ {X : Type 0} (p : X → Bool) where
  pub place_no : (x : X) (xs : List X) → p x ≡ false → position_or_len p (x ∷ xs) ≡ 1 + position_or_len p xs
  place_no x xs e = rw e refl

  pub before_yes : (x : X) (xs : List X) → p x ≡ true → before_first p (x ∷ xs) ≡ []
  before_yes x xs e = rw e refl

  pub before_no : (x : X) (xs : List X) → p x ≡ false → before_first p (x ∷ xs) ≡ x ∷ before_first p xs
  before_no x xs e = ap (λ n. take n (x ∷ xs)) (place_no x xs e) ∙ take_one (position_or_len p xs) x xs

  pub after_yes : (x : X) (xs : List X) → p x ≡ true → after_first p (x ∷ xs) ≡ xs
  after_yes x xs e = rw e refl

  pub after_no : (x : X) (xs : List X) → p x ≡ false → after_first p (x ∷ xs) ≡ after_first p xs
  after_no x xs e =
      let size : 1 + position_or_len p xs + 1 ≡ 1 + (position_or_len p xs + 1) = omega arith in
      ap (λ n. drop (n + 1) (x ∷ xs)) (place_no x xs e) ∙ ap (λ n. drop n (x ∷ xs)) size ∙ drop_one (position_or_len p xs + 1) x xs
