-- One more result: the run at the list's end says whether the last position is a success or a failure position.
use Rattle.std.proofs.Common.{◌≡◌, ℕ, zero, suc, ◌+◌, ◌≤◌, Bool, true, false, ◌||◌, cond, leb, List, [], ◌∷◌, ◌++◌, length, take, Option, Some, None, refl, sym, ap, ◌∙◌, arith, add-one, one-add, inl, inr}
use Rattle.std.specs.Bool.{beq}
use Rattle.std.specs.Prelude.{reverse, filter, replicate}
use Rattle.std.specs.List.{starts_with, range_with_len, last_or, prefix_len}
use Rattle.std.specs.Option.{option_map_or}
use Rattle.std.proofs.Math.Dec.{leb-suc-suc, leb-suc-zero}
use Rattle.std.proofs.lemmas.Bool.Decides.{leb_tells}
use Rattle.std.proofs.lemmas.Bool.{cases_Bool}
use Rattle.std.proofs.lemmas.List.{append-nil, take_all, take-append-le, length_push, reverse-append}
use Rattle.std.proofs.lemmas.List.Elements.{filter-append}
use Rattle.rise_fall.specs.Health.{is_success, is_failure, ends_up}

-- as many equal elements as a list begins with are as long as its run of them
starts_with-run : (ok : Bool) (k : ℕ) (xs : List Bool) → starts_with beq xs (replicate k ok) ≡ leb k (prefix_len (beq ok) xs)
starts_with-run ok zero xs =
    elim (leb_tells 0 (prefix_len (beq ok) xs)) [ inl within ↦ sym within.0 | inr past ↦ absurd (omega (arith, past.1)) ]
starts_with-run ok (suc k) [] = sym (leb-suc-zero k)
starts_with-run true (suc k) (true ∷ xs) =
    let e = starts_with-run true k xs in let step = leb-suc-suc k (prefix_len (beq true) xs) in grind arith
starts_with-run true (suc k) (false ∷ xs) = sym (leb-suc-zero k)
starts_with-run false (suc k) (true ∷ xs) = sym (leb-suc-zero k)
starts_with-run false (suc k) (false ∷ xs) =
    let e = starts_with-run false k xs in let step = leb-suc-suc k (prefix_len (beq false) xs) in grind arith

range_with_len-push : (a n : ℕ) → range_with_len a (suc n) ≡ range_with_len a n ++ (a + n) ∷ []
range_with_len-push a zero = ap (λ k. k ∷ []) (omega arith)
range_with_len-push a (suc n) = ap (λ ks. a ∷ ks) (range_with_len-push (a + 1) n ∙ ap (λ k. range_with_len (a + 1) n ++ k ∷ []) (omega arith))

last_or-push : (o : Option ℕ) (xs : List ℕ) (x : ℕ) → last_or o (xs ++ x ∷ []) ≡ Some x
last_or-push o [] x = refl
last_or-push o (y ∷ xs) x = last_or-push (Some y) xs x

-- what the last of the first n positions at which one of the tests passes says
unfoldable verdict : (ℕ → Bool) → (ℕ → Bool) → ℕ → Bool
verdict s f n = option_map_or s (last_or None (filter (λ k. s k || f k) (range_with_len 1 n))) true

verdict-at : (s f : ℕ → Bool) (earlier : List ℕ) (k : ℕ) → option_map_or s (last_or None (earlier ++ cond (s k || f k) (k ∷ []) [])) true ≡ cond (s k) true (cond (f k) false (option_map_or s (last_or None earlier) true))
verdict-at s f earlier k =
    elim (cases_Bool (s k)) [
      | inl passes ↦ simp (passes, last_or-push)
      | inr fails ↦ elim (cases_Bool (f k)) [ inl other ↦ simp (fails, other, last_or-push) | inr neither ↦ simp (fails, neither, append-nil) ]
    ]

verdict-suc : (s f : ℕ → Bool) (n : ℕ) → verdict s f (suc n) ≡ cond (s (suc n)) true (cond (f (suc n)) false (verdict s f n))
unfolding verdict
verdict-suc s f n =
    let p : ℕ → Bool = λ k. s k || f k in
    let step = ap (filter p) (range_with_len-push 1 n) ∙ filter-append p (range_with_len 1 n) ((1 + n) ∷ []) in
    ap (λ ks. option_map_or s (last_or None ks) true) step ∙ (rw (one-add n) (verdict-at s f (filter p (range_with_len 1 n)) (suc n)))

verdict-same : (s f s' f' : ℕ → Bool) (n : ℕ) → ((k : ℕ) → k ≤ n → s k ≡ s' k) → ((k : ℕ) → k ≤ n → f k ≡ f' k) → verdict s f n ≡ verdict s' f' n
unfolding verdict
verdict-same s f s' f' zero same_s same_f = refl
verdict-same s f s' f' (suc n) same_s same_f =
    let rest = verdict-same s f s' f' n (λ k h. same_s k (omega arith)) (λ k h. same_f k (omega arith)) in
    let at_s = same_s (suc n) (omega arith) in
    let at_f = same_f (suc n) (omega arith) in
    let left = verdict-suc s f n in
    let right = verdict-suc s' f' n in
    left ∙ rw (at_s, at_f, rest) (sym right)

-- what the positions of a list say, with one result behind it
ends_up-verdict : (rise fall : ℕ) (results : List Bool) → ends_up rise fall results ≡ verdict (is_success rise results) (is_failure fall results) (length results)
unfolding ends_up verdict
ends_up-verdict rise fall results = refl

pub ends_up-push : (rise fall : ℕ) (results : List Bool) (ok : Bool) → ends_up rise fall (results ++ ok ∷ []) ≡ cond (leb rise (prefix_len (beq true) (ok ∷ reverse results))) true (cond (leb fall (prefix_len (beq false) (ok ∷ reverse results))) false (ends_up rise fall results))
ends_up-push rise fall results ok =
    let all = results ++ ok ∷ [] in
    let s = is_success rise all in
    let f = is_failure fall all in
    let long : length all ≡ suc (length results) = length_push results ok ∙ add-one (length results) in
    let whole : take (suc (length results)) all ≡ all = take_all (suc (length results)) all (omega (arith, long)) in
    let back : reverse all ≡ ok ∷ reverse results = reverse-append results (ok ∷ []) in
    let at_s : s (suc (length results)) ≡ leb rise (prefix_len (beq true) (ok ∷ reverse results)) =
    ap (λ l. starts_with beq (reverse l) (replicate rise true)) whole ∙ (ap (λ l. starts_with beq l (replicate rise true)) back ∙ starts_with-run true rise (ok ∷ reverse results)) in
    let at_f : f (suc (length results)) ≡ leb fall (prefix_len (beq false) (ok ∷ reverse results)) =
    ap (λ l. starts_with beq (reverse l) (replicate fall false)) whole ∙ (ap (λ l. starts_with beq l (replicate fall false)) back ∙ starts_with-run false fall (ok ∷ reverse results)) in
    let kept : verdict s f (length results) ≡ ends_up rise fall results =
    verdict-same s f (is_success rise results) (is_failure fall results) (length results)
    (λ k h. ap (λ l. starts_with beq (reverse l) (replicate rise true)) (take-append-le k results (ok ∷ []) h))
    (λ k h. ap (λ l. starts_with beq (reverse l) (replicate fall false)) (take-append-le k results (ok ∷ []) h))
    ∙ sym (ends_up-verdict rise fall results) in
    ends_up-verdict rise fall all ∙ (ap (verdict s f) long ∙ (verdict-suc s f (length results) ∙ rw (at_s, at_f, kept) refl))
