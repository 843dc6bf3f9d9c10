-- The words of bytes, one after another.
use Rattle.std.proofs.Common.{◌≡◌, ℕ, zero, suc, ◌+◌, ◌<◌, ◌≤◌, Bool, true, false, not, eqb, Some, None, List, [], ◌∷◌, length, get_or, take, drop, position, refl, sym, ap, ◌∙◌, add-one, arith}
use Rattle.std.specs.List.{filter, position_or_len, slice_split}
use Rattle.std.proofs.lemmas.Bool.Decides.{nat_tests}
use Rattle.std.proofs.lemmas.List.{length-take-le, take_all}
use Rattle.std.proofs.lemmas.List.Quantifiers.{position-Some}
use Rattle.std.proofs.lemmas.List.Sums.{position_or_len_is, fails_before_first}
use Rattle.std.proofs.lemmas.List.Splits.{slice_split-cons_yes, slice_split_first, slice_split_none}
use Rattle.std.proofs.Math.Seq.{drop-cons}
use Rattle.sheet_format.specs.Words.{is_blank, is_filled, words_of}

-- a blank in front makes no word
blank_first : (byte : ℕ) (bytes : List ℕ) → is_blank byte ≡ true → words_of (byte ∷ bytes) ≡ words_of bytes
unfolding words_of
blank_first byte bytes blank = ap (λ ps. filter is_filled ps) (slice_split-cons_yes is_blank byte bytes blank)

not_false : (b : Bool) → not b ≡ false → b ≡ true
not_false true is = refl
not_false false is = absurd (let e : true ≡ false = is in cc)

not_true : (b : Bool) → not b ≡ true → b ≡ false
not_true true is = absurd (let e : false ≡ true = is in cc)
not_true false is = refl

-- blanks in front make no words
pub blanks_first : (bytes : List ℕ) (i : ℕ) → i ≤ length bytes → ((k : ℕ) → k < i → not (is_blank (get_or bytes k 0)) ≡ false) → words_of bytes ≡ words_of (drop i bytes)
blanks_first bytes zero within blank = refl
blanks_first [] (suc i) within blank = absurd (omega arith)
blanks_first (byte ∷ bytes) (suc i) within blank =
    let first : is_blank byte ≡ true = not_false (is_blank byte) (blank 0 (omega arith)) in
    blank_first byte bytes first ∙ blanks_first bytes i (omega arith) (λ k below. blank (suc k) (omega arith))

first_of_drop : (bytes : List ℕ) (i : ℕ) → get_or (drop i bytes) 0 0 ≡ get_or bytes i 0
first_of_drop bytes zero = refl
first_of_drop [] (suc i) = refl
first_of_drop (byte ∷ bytes) (suc i) = first_of_drop bytes i

some_left : (bytes : List ℕ) (i : ℕ) → i < length bytes → 0 < length (drop i bytes)
some_left bytes zero below = below
some_left [] (suc i) below = absurd (omega arith)
some_left (byte ∷ bytes) (suc i) below = some_left bytes i (omega arith)

-- the first word begins at the first byte that is no blank
pub begin_found : (bytes : List ℕ) (i : ℕ) → position (λ b. not (is_blank b)) bytes ≡ Some i → (words_of bytes ≡ words_of (drop i bytes)) × (0 < length (drop i bytes)) × (is_blank (get_or (drop i bytes) 0 0) ≡ false)
begin_found bytes i found =
    let at = position-Some (λ b. not (is_blank b)) bytes i 0 found in (
      blanks_first bytes i (omega (arith, at.0)) at.2,
      some_left bytes i at.0,
      ap is_blank (first_of_drop bytes i) ∙ not_true (is_blank (get_or bytes i 0)) at.1,
    )

-- nothing has no word
nothing_left : (bytes : List ℕ) → words_of (drop (length bytes) bytes) ≡ []
unfolding words_of
nothing_left [] = refl
nothing_left (byte ∷ bytes) = nothing_left bytes

-- blanks alone have no word
pub begin_none : (bytes : List ℕ) → position (λ b. not (is_blank b)) bytes ≡ None → words_of bytes ≡ []
unfolding words_of
begin_none bytes none =
    let past : length bytes ≤ position_or_len (λ b. not (is_blank b)) bytes = grind (arith, nat_tests) in
    blanks_first bytes (length bytes) (omega arith) (λ k below. fails_before_first (λ b. not (is_blank b)) bytes k 0 (omega arith)) ∙ nothing_left bytes

filled : (word : List ℕ) → 0 < length word → is_filled word ≡ true
filled word some = let z : eqb (length word) 0 ≡ false = grind (arith, nat_tests) in rw z refl

-- a word ends at the first blank
pub end_found : (text : List ℕ) (i : ℕ) → position is_blank text ≡ Some i → is_blank (get_or text 0 0) ≡ false → words_of text ≡ take i text ∷ words_of (drop i text)
unfolding words_of
end_found text i found first =
    let at = position-Some is_blank text i 0 found in
    let here : position_or_len is_blank text ≡ i = position_or_len_is is_blank text i 0 (omega (arith, at.0)) at.2 (λ _. at.1) in
    let cut = rw here at (slice_split_first is_blank text 0 (omega (arith, here, at.0))) in
    let some : 0 < i = begins i at.1 in
    let is_word : is_filled (take i text) ≡ true = filled (take i text) (omega (arith, length-take-le i text (omega (arith, at.0)))) in
    let rest : drop i text ≡ get_or text i 0 ∷ drop (i + 1) text = rw add-one (drop-cons text i 0 at.0) in
    with_words cut is_word ∙ ap (λ ws. take i text ∷ ws) (sym (ap words_of rest ∙ blank_first (get_or text i 0) (drop (i + 1) text) at.1))
  where
    begins : (k : ℕ) → is_blank (get_or text k 0) ≡ true → 0 < k
    begins zero blank = absurd (let e : true ≡ false = sym blank ∙ first in cc)
    begins (suc k) blank = omega arith

    with_words : slice_split is_blank text ≡ take i text ∷ slice_split is_blank (drop (i + 1) text) → is_filled (take i text) ≡ true → words_of text ≡ take i text ∷ words_of (drop (i + 1) text)
    with_words cut is_word = ap (λ ps. filter is_filled ps) cut ∙ rw is_word refl

-- without a blank the text is one word
pub end_none : (text : List ℕ) → position is_blank text ≡ None → 0 < length text → words_of text ≡ take (length text) text ∷ words_of (drop (length text) text)
unfolding words_of
end_none text none some =
    let past : length text ≤ position_or_len is_blank text = grind (arith, nat_tests) in
    let whole = slice_split_none is_blank text (λ k d within. fails_before_first is_blank text k d (omega arith)) in
    let one : words_of text ≡ text ∷ [] = ap (λ ps. filter is_filled ps) whole ∙ rw (filled text some) refl in
    one ∙ (ap (λ t. t ∷ []) (sym (take_all (length text) text (omega arith))) ∙ ap (λ ws. take (length text) text ∷ ws) (sym (nothing_left text)))
