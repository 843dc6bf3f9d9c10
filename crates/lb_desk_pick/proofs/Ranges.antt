-- Numbers in a row: parts of them, and the first that passes a test.
use Rattle.std.proofs.Common.{◌≡◌, ℕ, ◌+◌, ◌-◌, ◌<◌, ◌≤◌, zero, suc, Bool, true, false, not, cond, min, Option, Some, None, List, [], ◌∷◌, ◌++◌, refl, sym, ap, ◌∙◌, inl, inr, arith}
use Rattle.std.specs.Prelude.{filter, fold}
use Rattle.std.specs.List.{find, range_with_len}
use Rattle.std.proofs.lemmas.Bool.{cases_lt, lt-ltb, le-ltb}
use Rattle.std.proofs.lemmas.List.{append-nil}
use Rattle.std.proofs.lemmas.List.Folds.{find-append}
use Rattle.std.proofs.lemmas.List.Sums.{fold-append}
use Rattle.std.proofs.lemmas.List.Elements.{filter-append}
use Rattle.lb_desk_model.specs.declared.stand.Stand.{Stand}
use Rattle.lb_desk_model.specs.Picks.{is_server_behind, round_from}
use Rattle.lb_desk_pick.specs.Walks.{first_behind}

-- the first of them, and the others
range-append : (a m n : ℕ) → range_with_len a (m + n) ≡ range_with_len a m ++ range_with_len (a + m) n
range-append a zero n =
    let none : zero + n ≡ n = omega arith in
    let same : a + zero ≡ a = omega arith in
    rw (none, same) refl
range-append a (suc m) n =
    let whole : suc m + n ≡ suc (m + n) = omega arith in
    let start : a + suc m ≡ a + 1 + m = omega arith in
    rw (whole, start) (ap (λ (ks : List ℕ). a ∷ ks) (range-append (a + 1) m n))

-- ---- the first that passes

none_more : (p : ℕ → Bool) (a n : ℕ) → find p (range_with_len a n) ≡ None → p (a + n) ≡ false → find p (range_with_len a (n + 1)) ≡ None
none_more p a n none fails =
    ap (find p) (range-append a n 1) ∙ (find-append p (range_with_len a n) (range_with_len (a + n) 1) ∙ rw (none, fails) refl)

first_there : (p : ℕ → Bool) (a n m : ℕ) → find p (range_with_len a n) ≡ None → p (a + n) ≡ true
    → find p (range_with_len a (n + suc m)) ≡ Some (a + n)
first_there p a n m none passes =
    ap (find p) (range-append a n (suc m)) ∙ (find-append p (range_with_len a n) (range_with_len (a + n) (suc m)) ∙ rw (none, passes) refl)

-- one number further
pub none_next : (p : ℕ → Bool) (from i : ℕ) → from ≤ i → find p (range_with_len from (i - from)) ≡ None → p i ≡ false
    → find p (range_with_len from (i + 1 - from)) ≡ None
none_next p from i past none fails =
    let here : from + (i - from) ≡ i = omega arith in
    let count : i + 1 - from ≡ i - from + 1 = omega arith in
    rw count (none_more p from (i - from) none (ap p here ∙ fails))

-- the number that passes
pub found_at : (p : ℕ → Bool) (from i end : ℕ) → from ≤ i → i < end → find p (range_with_len from (i - from)) ≡ None → p i ≡ true
    → Some i ≡ find p (range_with_len from (end - from))
found_at p from i end past within none passes =
    let here : from + (i - from) ≡ i = omega arith in
    let count : end - from ≡ i - from + suc (end - (i + 1)) = omega arith in
    rw count (sym (first_there p from (i - from) (end - (i + 1)) none (ap p here ∙ passes) ∙ ap (λ (k : ℕ). Some k) here))

-- the same from 0 on
pub none_next_number : (p : ℕ → Bool) (i : ℕ) → find p (range_with_len 0 i) ≡ None → p i ≡ false → find p (range_with_len 0 (i + 1)) ≡ None
none_next_number p i none fails =
    let here : 0 + i ≡ i = omega arith in
    none_more p 0 i none (ap p here ∙ fails)

pub found_number : (p : ℕ → Bool) (i end : ℕ) → i < end → find p (range_with_len 0 i) ≡ None → p i ≡ true → Some i ≡ find p (range_with_len 0 end)
found_number p i end within none passes =
    let here : 0 + i ≡ i = omega arith in
    let count : end ≡ i + suc (end - (i + 1)) = omega arith in
    sym (ap (λ (k : ℕ). find p (range_with_len 0 k)) count ∙ (first_there p 0 i (end - (i + 1)) none (ap p here ∙ passes) ∙ ap (λ (k : ℕ). Some k) here))

-- ---- those that pass

filter_range_all : (p : ℕ → Bool) (a n : ℕ) → ((s : ℕ) → a ≤ s → s < a + n → p s ≡ true) → filter p (range_with_len a n) ≡ range_with_len a n
filter_range_all p a zero all = refl
filter_range_all p a (suc n) all =
    let here : p a ≡ true = all a (omega arith) (omega arith) in
    let rest = filter_range_all p (a + 1) n (λ s past within. all s (omega arith) (omega arith)) in
    rw (here, rest) refl

filter_range_none : (p : ℕ → Bool) (a n : ℕ) → ((s : ℕ) → a ≤ s → s < a + n → p s ≡ false) → filter p (range_with_len a n) ≡ []
filter_range_none p a zero none = refl
filter_range_none p a (suc n) none =
    let here : p a ≡ false = none a (omega arith) (omega arith) in
    let rest = filter_range_none p (a + 1) n (λ s past within. none s (omega arith) (omega arith)) in
    rw (here, rest) refl

-- one number further, of those that pass
filter_next : (p : ℕ → Bool) (from i : ℕ) → from ≤ i
    → filter p (range_with_len from (i + 1 - from)) ≡ filter p (range_with_len from (i - from)) ++ filter p (i ∷ [])
filter_next p from i past =
    let here : from + (i - from) ≡ i = omega arith in
    let count : i + 1 - from ≡ i - from + 1 = omega arith in
    rw count (
    ap (filter p) (range-append from (i - from) 1)
    ∙ (filter-append p (range_with_len from (i - from)) (range_with_len (from + (i - from)) 1)
    ∙ ap (λ (k : ℕ). filter p (range_with_len from (i - from)) ++ filter p (k ∷ [])) here)
    )

pub fold_next : (f : Option ℕ → ℕ → Option ℕ) (a : Option ℕ) (p : ℕ → Bool) (from i : ℕ) → from ≤ i
    → fold f a (filter p (range_with_len from (i + 1 - from)))
    ≡ cond (p i) (f (fold f a (filter p (range_with_len from (i - from)))) i) (fold f a (filter p (range_with_len from (i - from))))
fold_next f a p from i past =
    ap (fold f a) (filter_next p from i past)
    ∙ (fold-append f a (filter p (range_with_len from (i - from))) (filter p (i ∷ []))
    ∙ last (p i) (fold f a (filter p (range_with_len from (i - from)))))
  where
    last : (b : Bool) (o : Option ℕ) → fold f o (cond b (i ∷ []) []) ≡ cond b (f o i) o
    last true o = refl
    last false o = refl

-- ---- behind a number

pub find_behind : (p : ℕ → Bool) (s n : ℕ)
    → find p (range_with_len (min (s + 1) n) (n - min (s + 1) n)) ≡ find p (range_with_len (s + 1) (n - (s + 1)))
find_behind p s n =
    elim (cases_lt n (s + 1)) [
      | inl past ↦
          let none : n - min (s + 1) n ≡ 0 = omega arith in
          let empty : n - (s + 1) ≡ 0 = omega arith in
          rw (none, empty) refl
      | inr within ↦ let same : min (s + 1) n ≡ s + 1 = omega arith in rw same refl
    ]

-- ---- going round

-- the numbers below n, round from this one on
round_range : (behind : ℕ → Bool) (start n : ℕ) → start ≤ n → ((s : ℕ) → start ≤ s → s < n → behind s ≡ true) → ((s : ℕ) → s < start → behind s ≡ false)
    → round_from behind (range_with_len 0 n) ≡ range_with_len start (n - start) ++ range_with_len 0 start
round_range behind start n within after before =
    let count : n ≡ start + (n - start) = omega arith in
    let from : 0 + start ≡ start = omega arith in
    let whole : range_with_len 0 n ≡ range_with_len 0 start ++ range_with_len start (n - start) =
    ap (range_with_len 0) count ∙ (range-append 0 start (n - start) ∙ ap (λ (k : ℕ). range_with_len 0 start ++ range_with_len k (n - start)) from) in
    let no : ℕ → Bool = λ s. not (behind s) in
    let first : filter behind (range_with_len 0 n) ≡ range_with_len start (n - start) =
    ap (filter behind) whole
    ∙ (filter-append behind (range_with_len 0 start) (range_with_len start (n - start))
    ∙ rw (filter_range_none behind 0 start (λ s past below. before s (omega arith)), filter_range_all behind start (n - start) (λ s past below. after s past (omega arith))) refl) in
    let last : filter no (range_with_len 0 n) ≡ range_with_len 0 start =
    ap (filter no) whole
    ∙ (filter-append no (range_with_len 0 start) (range_with_len start (n - start))
    ∙ (rw (filter_range_all no 0 start (λ s past below. ap not (before s (omega arith))), filter_range_none no start (n - start) (λ s past below. ap not (after s past (omega arith)))) refl
    ∙ append-nil (range_with_len 0 start))) in
    rw (first, last) refl

pub round_of_numbers : (cursor : Option Stand) (n : ℕ)
    → round_from (is_server_behind cursor) (range_with_len 0 n) ≡ range_with_len (first_behind cursor n) (n - first_behind cursor n) ++ range_with_len 0 (first_behind cursor n)
round_of_numbers None n = round_range (is_server_behind None) 0 n (omega arith) (λ s past within. refl) (λ s below. absurd (omega arith))
round_of_numbers (Some cursor) n =
    round_range (is_server_behind (Some cursor)) (min (cursor.server + 1) n) n (omega arith)
    (λ s past within. lt-ltb cursor.server s (omega arith))
    (λ s below. le-ltb cursor.server s (omega arith))
