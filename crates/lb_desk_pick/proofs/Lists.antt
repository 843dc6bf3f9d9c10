-- First elements that pass a test, in parts of a list and going round.
use Rattle.std.proofs.Common.{◌≡◌, ℕ, ◌+◌, ◌<◌, Bool, true, false, not, ◌&&◌, ◌||◌, cond, Option, Some, None, List, [], ◌∷◌, ◌++◌, length, take, drop, get_or, refl, sym, ap, ◌∙◌}
use Rattle.std.specs.Prelude.{filter}
use Rattle.std.specs.List.{find, list_all}
use Rattle.std.specs.Option.{option_or}
use Rattle.std.proofs.lemmas.Bool.{and_parts}
use Rattle.std.proofs.lemmas.List.{take_more, take-append-drop}
use Rattle.std.proofs.lemmas.List.Folds.{find-append, list_all-append}
use Rattle.lb_desk_model.specs.Picks.{round_from}

find_single : {X : Type 0} (p : X → Bool) (x : X) (b : Bool) → p x ≡ b → find p (x ∷ []) ≡ cond b (Some x) None
find_single p x true e = rw e refl
find_single p x false e = rw e refl

-- one element further without one that passes
pub none_more : {X : Type 0} (p : X → Bool) (xs : List X) (i : ℕ) (x : X) → i < length xs → x ≡ get_or xs i x → find p (take i xs) ≡ None → p x ≡ false
    → find p (take (i + 1) xs) ≡ None
none_more p xs i x h is none fails =
    ap (find p) (take_more xs i x h)
    ∙ (find-append p (take i xs) (get_or xs i x ∷ [])
    ∙ rw (none, ← is) (find_single p x false fails))

first_in_front : {X : Type 0} (p : X → Bool) (xs ys : List X) (x : X) → find p xs ≡ Some x → find p (xs ++ ys) ≡ Some x
first_in_front p xs ys x found = find-append p xs ys ∙ rw found refl

-- the first that passes is the one behind those that don't
pub first_at : {X : Type 0} (p : X → Bool) (xs : List X) (i : ℕ) (x : X) → i < length xs → x ≡ get_or xs i x → find p (take i xs) ≡ None → p x ≡ true
    → Some x ≡ find p xs
first_at p xs i x h is none passes =
    let here : find p (take (i + 1) xs) ≡ Some x =
    ap (find p) (take_more xs i x h)
    ∙ (find-append p (take i xs) (get_or xs i x ∷ [])
    ∙ rw (none, ← is) (find_single p x true passes)) in
    let whole = first_in_front p (take (i + 1) xs) (drop (i + 1) xs) x here in
    sym (ap (find p) (sym (take-append-drop (i + 1) xs)) ∙ whole)

-- ---- going round

abbrev pub both : {X : Type 0} → (X → Bool) → (X → Bool) → X → Bool
both a p x = a x && p x

pub find-filter : {X : Type 0} (a p : X → Bool) (xs : List X) → find p (filter a xs) ≡ find (both a p) xs
find-filter a p [] = refl
find-filter a p (x ∷ xs) = go (a x) (find-filter a p xs)
  where
    go : (b : Bool) → find p (filter a xs) ≡ find (both a p) xs
        → find p (cond b (x ∷ filter a xs) (filter a xs)) ≡ cond (b && p x) (Some x) (find (both a p) xs)
    go true rest = ap (cond (p x) (Some x)) rest
    go false rest = rest

find-rest : {X : Type 0} (a p : X → Bool) (xs : List X) → find (both a p) xs ≡ None → find p (filter (λ x. not (a x)) xs) ≡ find p xs
find-rest a p [] none = refl
find-rest a p (x ∷ xs) none = go (a x) (p x) refl (find-rest a p xs) none
  where
    go : (b c : Bool) → p x ≡ c → (find (both a p) xs ≡ None → find p (filter (λ y. not (a y)) xs) ≡ find p xs)
        → cond (b && c) (Some x) (find (both a p) xs) ≡ None
        → find p (cond (not b) (x ∷ filter (λ y. not (a y)) xs) (filter (λ y. not (a y)) xs)) ≡ cond (p x) (Some x) (find p xs)
    go true true e rest none = absurd cc
    go true false e rest none = rw e (rest none)
    go false true e rest none = rw e refl
    go false false e rest none = rw e (rest none)

-- what is found first going round: what passes both tests, or else what passes the second
pub round_find : {X : Type 0} (a p : X → Bool) (xs : List X) (first : Option X) → first ≡ find (both a p) xs
    → find p (round_from a xs) ≡ option_or first (find p xs)
round_find a p xs None e =
    find-append p (filter a xs) (filter (λ x. not (a x)) xs)
    ∙ (ap (λ o. option_or o (find p (filter (λ x. not (a x)) xs))) (find-filter a p xs ∙ sym e) ∙ find-rest a p xs (sym e))
round_find a p xs (Some x) e =
    find-append p (filter a xs) (filter (λ x. not (a x)) xs)
    ∙ ap (λ o. option_or o (find p (filter (λ x. not (a x)) xs))) (find-filter a p xs ∙ sym e)

-- ---- tests of all elements

pub list_all-filter : {X : Type 0} (a q : X → Bool) (xs : List X) → list_all q (filter a xs) ≡ list_all (λ x. not (a x) || q x) xs
list_all-filter a q [] = refl
list_all-filter a q (x ∷ xs) = go (a x) (list_all-filter a q xs)
  where
    go : (b : Bool) → list_all q (filter a xs) ≡ list_all (λ y. not (a y) || q y) xs
        → list_all q (cond b (x ∷ filter a xs) (filter a xs)) ≡ ((not b || q x) && list_all (λ y. not (a y) || q y) xs)
    go true rest = ap (λ r. q x && r) rest
    go false rest = rest

pub all_filtered : {X : Type 0} (a : X → Bool) (xs : List X) → list_all a (filter a xs) ≡ true
all_filtered a [] = refl
all_filtered a (x ∷ xs) = go (a x) refl (all_filtered a xs)
  where
    go : (b : Bool) → a x ≡ b → list_all a (filter a xs) ≡ true → list_all a (cond b (x ∷ filter a xs) (filter a xs)) ≡ true
    go true e rest = rw e rest
    go false e rest = rest

and_join : (a b c : Bool) → ((a && b) && c) ≡ (a && (b && c))
and_join true b c = refl
and_join false b c = refl

and_swap : (a b c : Bool) → (b && (a && c)) ≡ (a && (b && c))
and_swap true b c = refl
and_swap false true c = refl
and_swap false false c = refl

all_parts : {X : Type 0} (a q : X → Bool) (xs : List X)
    → (list_all q (filter a xs) && list_all q (filter (λ x. not (a x)) xs)) ≡ list_all q xs
all_parts a q [] = refl
all_parts a q (x ∷ xs) = go (a x) (all_parts a q xs)
  where
    go : (b : Bool) → (list_all q (filter a xs) && list_all q (filter (λ y. not (a y)) xs)) ≡ list_all q xs
        → (list_all q (cond b (x ∷ filter a xs) (filter a xs)) && list_all q (cond (not b) (x ∷ filter (λ y. not (a y)) xs) (filter (λ y. not (a y)) xs)))
        ≡ (q x && list_all q xs)
    go true rest =
        and_join (q x) (list_all q (filter a xs)) (list_all q (filter (λ y. not (a y)) xs)) ∙ ap (λ r. q x && r) rest
    go false rest =
        and_swap (q x) (list_all q (filter a xs)) (list_all q (filter (λ y. not (a y)) xs)) ∙ ap (λ r. q x && r) rest

-- going round, all elements are met
pub list_all-round : {X : Type 0} (a q : X → Bool) (xs : List X) → list_all q (round_from a xs) ≡ list_all q xs
list_all-round a q xs = list_all-append q (filter a xs) (filter (λ x. not (a x)) xs) ∙ all_parts a q xs

-- tests that agree on elements that are good find the same among these
pub find_same : {X : Type 0} (good p q : X → Bool) (xs : List X) → list_all good xs ≡ true
    → ((x : X) → good x ≡ true → p x ≡ q x) → find p xs ≡ find q xs
find_same good p q [] all same = refl
find_same good p q (x ∷ xs) all same =
    let parts = and_parts (good x) (list_all good xs) all in
    rw (same x parts.0, find_same good p q xs parts.1 same) refl
