-- Heads, found one after another.
use Rattle.std.proofs.Common.{◌≡◌, ℕ, suc, ◌-◌, ◌<◌, Bool, true, false, not, ◌||◌, Some, None, List, [], ◌∷◌, length, take, refl, sym, ap, ◌∙◌, arith}
use Rattle.std.specs.List.{list_any, after_first, slice_split, onto_first, find}
use Rattle.std.proofs.lemmas.Bool.{false≢true}
use Rattle.std.proofs.lemmas.Bool.Decides.{nat_tests}
use Rattle.std.proofs.lemmas.List.Splits.{slice_split-cons_yes, slice_split-cons_no, length-slice_split}
use Rattle.set_cookie.proofs.Firsts.{before_yes, before_no, after_yes, after_no}
use Rattle.set_cookie.specs.StatusLines.{is_interim}
use Rattle.set_cookie.specs.Lines.{ended, lines_of, is_empty, heads, first_line, final_head}
use Rattle.set_cookie.specs.Scans.{head_of}

-- one part more in front
pub ended_cons : {X : Type 0} (x : X) (xs : List X) → 0 < length xs → ended (x ∷ xs) ≡ x ∷ ended xs
ended_cons x xs some = let size : length (x ∷ xs) - 1 ≡ suc (length xs - 1) = omega (arith, some) in ap (λ n. take n (x ∷ xs)) size

any_later : (line : List ℕ) (more : List (List ℕ)) (b : Bool) → is_empty line ≡ false → list_any is_empty (line ∷ more) ≡ b → list_any is_empty more ≡ b
any_later line more b e any = sym (ap (λ t. t || list_any is_empty more) e) ∙ any

abbrev IsSplit : List (List ℕ) → Type 0
IsSplit lines = slice_split is_empty lines ≡ head_of lines ∷ slice_split is_empty (after_first is_empty lines)

split_yes : (lines : List (List ℕ)) → list_any is_empty lines ≡ true → IsSplit lines
split_yes [] any = absurd (false≢true any)
split_yes (x ∷ xs) any = by (is_empty x) refl (λ later. split_yes xs later)
  where
    by : (b : Bool) → is_empty x ≡ b → (list_any is_empty xs ≡ true → IsSplit xs) → IsSplit (x ∷ xs)
    by true e more =
        slice_split-cons_yes is_empty x xs e ∙ ap (λ h. h ∷ slice_split is_empty xs) (sym (before_yes is_empty x xs e))
        ∙ ap (λ ls. head_of (x ∷ xs) ∷ slice_split is_empty ls) (sym (after_yes is_empty x xs e))
    by false e more =
        slice_split-cons_no is_empty x xs e ∙ ap (onto_first x) (more (any_later x xs true e any))
        ∙ ap (λ h. h ∷ slice_split is_empty (after_first is_empty xs)) (sym (before_no is_empty x xs e))
        ∙ ap (λ ls. head_of (x ∷ xs) ∷ slice_split is_empty ls) (sym (after_no is_empty x xs e))

split_no : (lines : List (List ℕ)) → list_any is_empty lines ≡ false → slice_split is_empty lines ≡ lines ∷ []
split_no [] none = refl
split_no (x ∷ xs) none = by (is_empty x) refl (λ later. split_no xs later)
  where
    by : (b : Bool) → is_empty x ≡ b → (list_any is_empty xs ≡ false → slice_split is_empty xs ≡ xs ∷ []) → slice_split is_empty (x ∷ xs) ≡ (x ∷ xs) ∷ []
    by true e more = let found : true ≡ false = sym (ap (λ b. b || list_any is_empty xs) e) ∙ none in absurd (false≢true (sym found))
    by false e more = slice_split-cons_no is_empty x xs e ∙ ap (onto_first x) (more (any_later x xs false e none))

-- without an empty line no head has come whole
pub no_head : (lines : List (List ℕ)) → list_any is_empty lines ≡ false → heads lines ≡ []
unfolding heads
no_head lines none = rw (split_no lines none) refl

-- the lines before the first empty one are a head, and further ones may follow
pub first_head : (lines : List (List ℕ)) → list_any is_empty lines ≡ true → heads lines ≡ head_of lines ∷ heads (after_first is_empty lines)
unfolding heads
first_head lines any =
    ap ended (split_yes lines any) ∙ ended_cons (head_of lines) (slice_split is_empty (after_first is_empty lines)) (omega (arith, length-slice_split is_empty (after_first is_empty lines)))

-- a head begins with the first line
pub first_is : (status : List ℕ) (more : List (List ℕ)) → first_line (head_of (status ∷ more)) ≡ status
first_is [] more = refl
first_is (b ∷ bs) more = let full : is_empty (b ∷ bs) ≡ false = grind (arith, nat_tests) in ap first_line (before_no is_empty (b ∷ bs) more full)

find_yes : (q : List (List ℕ) → Bool) (head : List (List ℕ)) (more : List (List (List ℕ))) → q head ≡ true → find q (head ∷ more) ≡ Some head
find_yes q head more e = rw e refl

find_no : (q : List (List ℕ) → Bool) (head : List (List ℕ)) (more : List (List (List ℕ))) → q head ≡ false → find q (head ∷ more) ≡ find q more
find_no q head more e = rw e refl

pub final_none : (bytes : List ℕ) → list_any is_empty (lines_of bytes) ≡ false → final_head bytes ≡ None
unfolding final_head
final_none bytes none = rw (no_head (lines_of bytes) none) refl

pub final_here : (bytes status : List ℕ) (more : List (List ℕ)) → lines_of bytes ≡ status ∷ more → list_any is_empty (lines_of bytes) ≡ true → is_interim status ≡ false → final_head bytes ≡ Some (head_of (lines_of bytes))
unfolding final_head
final_here bytes status more lines any final =
    let line : first_line (head_of (lines_of bytes)) ≡ status = ap (λ ls. first_line (head_of ls)) lines ∙ first_is status more in
    ap (find (λ head. not (is_interim (first_line head)))) (first_head (lines_of bytes) any)
    ∙ find_yes (λ head. not (is_interim (first_line head))) (head_of (lines_of bytes)) (heads (after_first is_empty (lines_of bytes))) (ap (λ l. not (is_interim l)) line ∙ ap not final)

pub final_later : (bytes rest status : List ℕ) (more : List (List ℕ)) → lines_of bytes ≡ status ∷ more → list_any is_empty (lines_of bytes) ≡ true → lines_of rest ≡ after_first is_empty (lines_of bytes) → is_interim status ≡ true → final_head rest ≡ final_head bytes
unfolding final_head
final_later bytes rest status more lines any after interim =
    let line : first_line (head_of (lines_of bytes)) ≡ status = ap (λ ls. first_line (head_of ls)) lines ∙ first_is status more in
    let step = find_no (λ head. not (is_interim (first_line head))) (head_of (lines_of bytes)) (heads (after_first is_empty (lines_of bytes))) (ap (λ l. not (is_interim l)) line ∙ ap not interim) in
    ap (λ ls. find (λ head. not (is_interim (first_line head))) (heads ls)) after ∙ sym step ∙ sym (ap (find (λ head. not (is_interim (first_line head)))) (first_head (lines_of bytes) any))
