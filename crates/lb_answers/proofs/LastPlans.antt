-- What is found last among the items of a list.
use Rattle.std.proofs.Common.{◌≡◌, ℕ, ◌+◌, ◌<◌, Option, Some, None, List, [], ◌∷◌, ◌++◌, length, take, get_or, refl, sym, ap, ◌∙◌, append-nil}
use Rattle.std.specs.Borrow.{Bor}
use Rattle.std.specs.List.{filter_map, last_or}
use Rattle.std.specs.Option.{option_copied, option_or}
use Rattle.std.proofs.lemmas.List.{take_more}
use Rattle.std.proofs.lemmas.List.Elements.{filter_map-append}

last-push : {A : Type 0} (o : Option A) (xs : List A) (x : A) → last_or o (xs ++ x ∷ []) ≡ Some x
last-push o [] x = refl
last-push o (y ∷ xs) x = last-push (Some y) xs x

-- the item gives one
last-some : {A B : Type 0} (find : A → Option B) (xs : List A) (i : ℕ) (x : A) (y : B) → i < length xs → x ≡ get_or xs i x → find x ≡ Some y → last_or None (filter_map find (take (i + 1) xs)) ≡ Some y
last-some find xs i x y within here found =
    let e : take (i + 1) xs ≡ take i xs ++ x ∷ [] = take_more xs i x within ∙ ap (λ z. take i xs ++ z ∷ []) (sym here) in
    rw (e, filter_map-append find (take i xs) (x ∷ []), found) (last-push None (filter_map find (take i xs)) y)

-- the item gives none
last-none : {A B : Type 0} (find : A → Option B) (xs : List A) (i : ℕ) (x : A) → i < length xs → x ≡ get_or xs i x → find x ≡ None → last_or None (filter_map find (take (i + 1) xs)) ≡ last_or None (filter_map find (take i xs))
last-none {B = B} find xs i x within here found =
    let e : take (i + 1) xs ≡ take i xs ++ x ∷ [] = take_more xs i x within ∙ ap (λ z. take i xs ++ z ∷ []) (sym here) in
    rw (e, filter_map-append find (take i xs) (x ∷ []), found, append-nil {A = B}) refl

-- one item more: what it gives, or else what the items before it gave
pub last-more : {A B : Type 0} (find : A → Option B) (xs : List A) (i : ℕ) (x : A) (found last : Option (Bor B)) → i < length xs → x ≡ get_or xs i x → option_copied found ≡ find x → option_copied last ≡ last_or None (filter_map find (take i xs)) → option_copied (option_or found last) ≡ last_or None (filter_map find (take (i + 1) xs))
last-more find xs i x None last within here finds so_far = so_far ∙ sym (last-none find xs i x within here (sym finds))
last-more find xs i x (Some y) last within here finds so_far = sym (last-some find xs i x y.now within here (sym finds))
