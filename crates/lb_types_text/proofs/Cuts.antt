-- Bytes cut at their first mark.
use Rattle.std.proofs.Common.{◌≡◌, ℕ, ◌+◌, ◌<◌, ◌≤◌, Bool, eqb, Some, None, List, [], ◌∷◌, ◌++◌, length, get_or, take, drop, position, arith}
use Rattle.std.specs.List.{position_or_len}
use Rattle.std.proofs.lemmas.Bool.Decides.{nat_tests}
use Rattle.std.proofs.lemmas.List.Quantifiers.{position-Some}
use Rattle.std.proofs.lemmas.List.Sums.{position_or_len_is, split_at_first, fails_before_first}
use Rattle.std.proofs.lemmas.List.Splits.{slice_split_first, slice_split_none, length-slice_split}
use Rattle.lb_types_text.specs.Parts.{parts}

-- the first mark stands where it was found
first_mark : (mark : ℕ) (bytes : List ℕ) (i : ℕ) → position (λ b. eqb b mark) bytes ≡ Some i → (position_or_len (λ b. eqb b mark) bytes ≡ i) × (i < length bytes) × (get_or bytes i 0 ≡ mark)
first_mark mark bytes i found =
    let at = position-Some (λ b. eqb b mark) bytes i 0 found in
    (position_or_len_is (λ b. eqb b mark) bytes i 0 (omega (arith, at.0)) at.2 (λ _. at.1), at.0, grind (arith, nat_tests, at.1))

pub cut_whole : (mark : ℕ) (bytes : List ℕ) (i : ℕ) → position (λ b. eqb b mark) bytes ≡ Some i → bytes ≡ take i bytes ++ mark ∷ drop (i + 1) bytes
cut_whole mark bytes i found =
    let first = first_mark mark bytes i found in
    let whole = split_at_first (λ b. eqb b mark) bytes 0 (omega (arith, first.0, first.1)) in
    rw first.2 at (rw first.0 at whole)

pub cut_found : (mark : ℕ) (bytes : List ℕ) (i : ℕ) → position (λ b. eqb b mark) bytes ≡ Some i → parts mark bytes ≡ take i bytes ∷ parts mark (drop (i + 1) bytes)
cut_found mark bytes i found =
    let first = first_mark mark bytes i found in
    let cut = slice_split_first (λ b. eqb b mark) bytes 0 (omega (arith, first.0, first.1)) in
    rw first.0 at cut

pub cut_none : (mark : ℕ) (bytes : List ℕ) → position (λ b. eqb b mark) bytes ≡ None → parts mark bytes ≡ bytes ∷ []
cut_none mark bytes none =
    let p : ℕ → Bool = λ b. eqb b mark in
    let past : length bytes ≤ position_or_len p bytes = grind (arith, nat_tests) in
    slice_split_none p bytes (λ k d within. fails_before_first p bytes k d (omega arith))

-- there is a part in any bytes
pub some_part : (mark : ℕ) (bytes : List ℕ) → 0 < length (parts mark bytes)
some_part mark bytes = omega (arith, length-slice_split (λ b. eqb b mark) bytes)
