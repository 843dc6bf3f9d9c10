-- The places of a list's elements, as a walk over the list meets them.
use Rattle.std.proofs.Common.{◌≡◌, ◌∙◌, ℕ, ◌+◌, List, [], ◌∷◌, ◌++◌, length, Some, slice_get, refl, sym, ap, subst, append_assoc, append-nil, arith}
use Rattle.lb_run_desks.specs.NewDeskView.{NewDeskView}
use Rattle.lb_run_desks.specs.NewDesks.{numbers, numbers_from}

module _ {A : Type 0} where
  -- the element behind so many stands at that place
  pub slice_get-behind : (xs ys : List A) (x : A) → slice_get (xs ++ x ∷ ys) (length xs) ≡ Some x
  slice_get-behind [] ys x = refl
  slice_get-behind (y ∷ xs) ys x = slice_get-behind xs ys x

  -- the next element of a list, of which some are done
  pub next_stands : (done rest all later : List A) (x : A) (place : ℕ) → done ++ rest ≡ all → rest ≡ x ∷ later → place ≡ length done → slice_get all place ≡ Some x
  next_stands done rest all later x place is next here =
      let there : slice_get (done ++ x ∷ later) (length done) ≡ Some x = slice_get-behind done later x in
      let whole : done ++ x ∷ later ≡ all = ap (λ l. done ++ l) (sym next) ∙ is in
      subst (λ (n : ℕ). slice_get all n ≡ Some x) (sym here) (subst (λ (l : List A). slice_get l (length done) ≡ Some x) whole there)

  -- and it is done then
  pub one_more_done : (done rest all later : List A) (x : A) → done ++ rest ≡ all → rest ≡ x ∷ later → (done ++ x ∷ []) ++ later ≡ all
  one_more_done done rest all later x is next = append_assoc done (x ∷ []) later ∙ ap (λ l. done ++ l) (sym next) ∙ is

  -- with nothing left, all are done
  pub all_done : (done rest all : List A) → done ++ rest ≡ all → length rest ≡ 0 → done ≡ all
  all_done done [] all is none = sym (append-nil done) ∙ is
  all_done done (x ∷ rest) all is none = absurd (omega arith)

numbers_from-push : (n : ℕ) (xs : List NewDeskView) (x : NewDeskView) → numbers_from n (xs ++ x ∷ []) ≡ numbers_from n xs ++ (n + length xs) ∷ []
numbers_from-push n [] x = ap (λ (m : ℕ). m ∷ []) (omega arith)
numbers_from-push n (y ∷ xs) x =
    let same : (n + 1) + length xs ≡ n + length (y ∷ xs) = omega arith in
    ap (λ l. n ∷ l) (numbers_from-push (n + 1) xs x ∙ ap (λ (m : ℕ). numbers_from (n + 1) xs ++ m ∷ []) same)

-- the place of one more element is behind theirs
pub numbers-push : (xs : List NewDeskView) (x : NewDeskView) → numbers (xs ++ x ∷ []) ≡ numbers xs ++ length xs ∷ []
numbers-push xs x =
    let same : 0 + length xs ≡ length xs = omega arith in
    numbers_from-push 0 xs x ∙ ap (λ (m : ℕ). numbers_from 0 xs ++ m ∷ []) same
