-- Pieces of a text that are sent for the items of a list, one after another.
use Rattle.std.proofs.Common.{◌≡◌, ℕ, ◌+◌, ◌<◌, Result, List, [], ◌∷◌, ◌++◌, length, take, get_or, sym, ap, subst, ◌∙◌, arith, append_assoc, append-nil, refl}
use Rattle.std.specs.List.{flat_map, enumerate_from}
use Rattle.std.proofs.lemmas.Grind.{flat_map-append}
use Rattle.std.proofs.lemmas.List.{take_more}
use Rattle.std.proofs.lemmas.List.FromFn.{length-enumerate_from, get_or-enumerate_from}
use Rattle.lb_types_counted.specs.Writers.{WriterState}
use Rattle.dual_cert_write.specs.Sending.{Sends}
use Rattle.dual_cert_write.proofs.Sends.{Sends-then}

-- a piece more behind those of the first items
flat_map-more : {A : Type 0} (piece : A → List ℕ) (xs : List A) (i : ℕ) (d : A) → i < length xs → flat_map piece (take (i + 1) xs) ≡ flat_map piece (take i xs) ++ piece (get_or xs i d)
flat_map-more piece xs i d within =
    ap (flat_map piece) (take_more xs i d within) ∙ flat_map-append piece (take i xs) (get_or xs i d ∷ []) ∙ ap (λ l. flat_map piece (take i xs) ++ l) (append-nil (piece (get_or xs i d)))

pub Sends-at : {E A : Type 0} (old mid new : WriterState) (before between sent : Result (Unit {0}) E) (piece : A → List ℕ) (xs : List A) (i : ℕ) (d : A) → i < length xs → Sends old before mid between (flat_map piece (take i xs)) → Sends mid between new sent (piece (get_or xs i d)) → Sends old before new sent (flat_map piece (take (i + 1) xs))
Sends-at old mid new before between sent piece xs i d within so_far more =
    let e = flat_map-more piece xs i d within in
    rw e (Sends-then old mid new before between sent _ _ so_far more)

pub Sends-more : {E A : Type 0} (old mid new : WriterState) (before between sent : Result (Unit {0}) E) (piece : A → List ℕ) (xs : List A) (i : ℕ) (x : A) → i < length xs → x ≡ get_or xs i x → Sends old before mid between (flat_map piece (take i xs)) → Sends mid between new sent (piece x) → Sends old before new sent (flat_map piece (take (i + 1) xs))
Sends-more old mid new before between sent piece xs i x within here so_far more =
    let P : List ℕ → Type 0 = λ text. Sends mid between new sent text in
    Sends-at old mid new before between sent piece xs i x within so_far (subst P (ap piece here) more)

-- the same where each piece has its item's number too
pub Sends-numbered : {E A : Type 0} (old mid new : WriterState) (before between sent : Result (Unit {0}) E) (piece : ℕ × A → List ℕ) (first : ℕ) (xs : List A) (i number : ℕ) (x : A) → i < length xs → number ≡ first + i → x ≡ get_or xs i x → Sends old before mid between (flat_map piece (take i (enumerate_from first xs))) → Sends mid between new sent (piece (number, x)) → Sends old before new sent (flat_map piece (take (i + 1) (enumerate_from first xs)))
Sends-numbered old mid new before between sent piece first xs i number x within is here so_far more =
    let inside : i < length (enumerate_from first xs) = omega (arith, length-enumerate_from first xs) in
    let e : (number, x) ≡ get_or (enumerate_from first xs) i (number, x) =
    ap (λ n. (n, x)) is ∙ ap (λ y. (first + i, y)) here ∙ sym (get_or-enumerate_from first xs i (number, x) within) in
    Sends-more old mid new before between sent piece (enumerate_from first xs) i (number, x) inside e so_far more

-- the pieces of two lists, numbered on
pub numbered-append : {A : Type 0} (piece : ℕ × A → List ℕ) (first : ℕ) (xs ys : List A) → flat_map piece (enumerate_from first (xs ++ ys)) ≡ flat_map piece (enumerate_from first xs) ++ flat_map piece (enumerate_from (first + length xs) ys)
numbered-append piece first [] ys = let e : first + 0 ≡ first = omega arith in rw e refl
numbered-append piece first (x ∷ xs) ys =
    let e : first + 1 + length xs ≡ first + length (x ∷ xs) = omega arith in
    ap (λ l. piece (first, x) ++ l) (rw e at (numbered-append piece (first + 1) xs ys)) ∙ sym (append_assoc (piece (first, x)) (flat_map piece (enumerate_from (first + 1) xs)) (flat_map piece (enumerate_from (first + length (x ∷ xs)) ys)))
