-- The words of a date, one after another.
use Rattle.std.proofs.Common.{◌≡◌, ℕ, ◌<◌, Bool, true, false, not, cond, eqb, List, [], ◌∷◌, length, take, drop, refl, sym, ap, ◌∙◌, arith}
use Rattle.std.specs.List.{slice_split, onto_first, filter, position_or_len, before_first}
use Rattle.std.proofs.lemmas.Bool.Decides.{nat_tests}
use Rattle.std.proofs.lemmas.List.Splits.{slice_split-cons_yes, slice_split-cons_no}
use Rattle.set_cookie.proofs.Firsts.{before_yes, before_no, place_no, drop_one}
use Rattle.set_cookie.specs.Dates.{is_date_mark, date_words}

abbrev is_some_word : List ℕ → Bool
is_some_word word = not (eqb (length word) 0)

place_yes : (x : ℕ) (xs : List ℕ) → is_date_mark x ≡ true → position_or_len is_date_mark (x ∷ xs) ≡ 0
place_yes x xs e = rw e refl

-- the parts after the first one have the words that follow it
record Rest (bytes : List ℕ) : Type 0 where
  parts : List (List ℕ)
  whole : slice_split is_date_mark bytes ≡ before_first is_date_mark bytes ∷ parts
  words : filter is_some_word parts ≡ filter is_some_word (slice_split is_date_mark (drop (position_or_len is_date_mark bytes) bytes))

rest_of : (bytes : List ℕ) → Rest bytes
rest_of [] = record { parts = []; whole = refl; words = refl }
rest_of (x ∷ xs) = by (is_date_mark x) refl (rest_of xs)
  where
    by : (b : Bool) → is_date_mark x ≡ b → Rest xs → Rest (x ∷ xs)
    by true e rest = record {
      parts = slice_split is_date_mark xs;
      whole = slice_split-cons_yes is_date_mark x xs e ∙ ap (λ h. h ∷ slice_split is_date_mark xs) (sym (before_yes is_date_mark x xs e));
      words = ap (filter is_some_word) (sym (ap (λ n. slice_split is_date_mark (drop n (x ∷ xs))) (place_yes x xs e) ∙ slice_split-cons_yes is_date_mark x xs e));
    }
    by false e rest = record {
      parts = rest.parts;
      whole = slice_split-cons_no is_date_mark x xs e ∙ ap (onto_first x) rest.whole ∙ ap (λ h. h ∷ rest.parts) (sym (before_no is_date_mark x xs e));
      words = rest.words ∙ ap (λ bs. filter is_some_word (slice_split is_date_mark bs)) (sym (ap (λ n. drop n (x ∷ xs)) (place_no is_date_mark x xs e) ∙ drop_one (position_or_len is_date_mark xs) x xs));
    }

some_word : (word : List ℕ) → 0 < length word → is_some_word word ≡ true
some_word word some = grind (arith, nat_tests)

filter_yes : (word : List ℕ) (more : List (List ℕ)) → is_some_word word ≡ true → filter is_some_word (word ∷ more) ≡ word ∷ filter is_some_word more
filter_yes word more e = ap (λ b. cond b (word ∷ filter is_some_word more) (filter is_some_word more)) e

-- a word that stands at the front
pub word_here : (bytes word behind : List ℕ) (n : ℕ) → n ≡ position_or_len is_date_mark bytes → word ≡ take n bytes → behind ≡ drop n bytes → 0 < length word → date_words bytes ≡ word ∷ date_words behind
unfolding date_words
word_here bytes word behind n place front after some =
    let rest = rest_of bytes in
    let first : before_first is_date_mark bytes ≡ word = sym (front ∙ ap (λ m. take m bytes) place) in
    let last : behind ≡ drop (position_or_len is_date_mark bytes) bytes = after ∙ ap (λ m. drop m bytes) place in
    ap (filter is_some_word) (rest.whole ∙ ap (λ w. w ∷ rest.parts) first)
    ∙ filter_yes word rest.parts (some_word word some)
    ∙ ap (λ ws. word ∷ ws) (rest.words ∙ ap (λ bs. filter is_some_word (slice_split is_date_mark bs)) (sym last))

-- a mark at the front
pub mark_here : (bytes word behind : List ℕ) (n : ℕ) → n ≡ position_or_len is_date_mark bytes → word ≡ take n bytes → length word ≡ 0 → 0 < length bytes → behind ≡ drop 1 bytes → date_words behind ≡ date_words bytes
unfolding date_words
mark_here [] word behind n place front none some after = absurd (omega (arith, some))
mark_here (x ∷ xs) word behind n place front none some after = by (is_date_mark x) refl
  where
    by : (b : Bool) → is_date_mark x ≡ b → filter is_some_word (slice_split is_date_mark behind) ≡ filter is_some_word (slice_split is_date_mark (x ∷ xs))
    by true e =
        let next : behind ≡ xs = after in
        ap (λ bs. filter is_some_word (slice_split is_date_mark bs)) next ∙ ap (filter is_some_word) (sym (slice_split-cons_yes is_date_mark x xs e))
    by false e =
        let full : word ≡ x ∷ take (position_or_len is_date_mark xs) xs = front ∙ ap (λ m. take m (x ∷ xs)) place ∙ before_no is_date_mark x xs e in
        absurd (omega (arith, none, ap length full))

-- nothing is left
pub no_words : (bytes : List ℕ) → length bytes ≡ 0 → date_words bytes ≡ []
unfolding date_words
no_words [] none = refl
no_words (x ∷ xs) none = absurd (omega (arith, none))
