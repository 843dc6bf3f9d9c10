-- Lists that some elements were left out of.
use Rattle.std.proofs.Common.{◌≡◌, ℕ, zero, suc, ◌≤◌, ◌⊎◌, inl, inr, Option, Some, None, List, [], ◌∷◌, length, drop, refl, sym, subst, arith}
use Rattle.std.specs.Prelude.{All, AllPairs, filter_map}
use Rattle.std.proofs.lemmas.List.Elements.{All-nil, All-cons, All-head, All-tail}
use Rattle.lb_types_pins.proofs.Pairs.{AllPairs-nil, AllPairs-cons, AllPairs-head, AllPairs-tail}

-- the first list is the second one, without some of its elements
abbrev pub IsPart : {A : Type 0} → List A → List A → Type 0
IsPart part [] = part ≡ []
IsPart {A} part (x ∷ xs) = IsPart part xs ⊎ ((more : List A) × (part ≡ x ∷ more) × IsPart more xs)

pub part-same : {A : Type 0} (xs : List A) → IsPart xs xs
part-same [] = refl
part-same (x ∷ xs) = inr (xs, refl, part-same xs)

pub part-drop : {A : Type 0} (n : ℕ) (xs : List A) → IsPart (drop n xs) xs
part-drop zero xs = part-same xs
part-drop (suc n) [] = refl
part-drop (suc n) (x ∷ xs) = inl (part-drop n xs)

pub part-All : {A : Type 0} (P : A → Type 0) (part xs : List A) → IsPart part xs → All P xs → All P part
part-All P part [] is all = subst (All P) (sym is) (All-nil P)
part-All P part (x ∷ xs) is all = elim is [
  | inl later ↦ part-All P part xs later (All-tail P x xs all)
  | inr first ↦ subst (All P) (sym first.1) (All-cons P x first.0 (All-head P x xs all) (part-All P first.0 xs first.2 (All-tail P x xs all)))
]

pub part-AllPairs : {A : Type 0} (R : A → A → Type 0) (part xs : List A) → IsPart part xs → AllPairs R xs → AllPairs R part
part-AllPairs R part [] is all = subst (AllPairs R) (sym is) (AllPairs-nil R)
part-AllPairs R part (x ∷ xs) is all = elim is [
  | inl later ↦ part-AllPairs R part xs later (AllPairs-tail R x xs all)
  | inr first ↦ subst (AllPairs R) (sym first.1)
      (AllPairs-cons R x first.0 (part-All (R x) first.0 xs first.2 (AllPairs-head R x xs all)) (part-AllPairs R first.0 xs first.2 (AllPairs-tail R x xs all)))
]

pub part-length : {A : Type 0} (part xs : List A) → IsPart part xs → length part ≤ length xs
part-length part [] is = subst (λ (l : List _). length l ≤ 0) (sym is) (omega arith)
part-length part (x ∷ xs) is = elim is [
  | inl later ↦ let rest = part-length part xs later in omega (arith, rest)
  | inr first ↦ let rest = part-length first.0 xs first.2 in subst (λ (l : List _). length l ≤ suc (length xs)) (sym first.1) (omega (arith, rest))
]

-- ---- what comes of each element, if something does

module _ {A B : Type 0} (f : A → Option B) where
  pub mapped-length : (xs : List A) → length (filter_map f xs) ≤ length xs
  mapped-length [] = omega arith
  mapped-length (x ∷ xs) = by (f x) (mapped-length xs)
    where
      by : (o : Option B) → length (filter_map f xs) ≤ length xs → length (Rattle.std.specs.List.cons_option o (filter_map f xs)) ≤ suc (length xs)
      by None rest = omega (arith, rest)
      by (Some y) rest = omega (arith, rest)

  module _ (P : A → Type 0) (Q : B → Type 0) (gives : (x : A) (y : B) → P x → f x ≡ Some y → Q y) where
    pub mapped-All : (xs : List A) → All P xs → All Q (filter_map f xs)
    mapped-All [] all = All-nil Q
    mapped-All (x ∷ xs) all = by (f x) refl (mapped-All xs (All-tail P x xs all))
      where
        by : (o : Option B) → f x ≡ o → All Q (filter_map f xs) → All Q (Rattle.std.specs.List.cons_option o (filter_map f xs))
        by None is rest = rest
        by (Some y) is rest = All-cons Q y (filter_map f xs) (gives x y (All-head P x xs all) is) rest

  module _ (R : A → A → Type 0) (S : B → B → Type 0) (gives : (x y : A) (v w : B) → R x y → f x ≡ Some v → f y ≡ Some w → S v w) where
    pub mapped-AllPairs : (xs : List A) → AllPairs R xs → AllPairs S (filter_map f xs)
    mapped-AllPairs [] all = AllPairs-nil S
    mapped-AllPairs (x ∷ xs) all = by (f x) refl (mapped-AllPairs xs (AllPairs-tail R x xs all))
      where
        by : (o : Option B) → f x ≡ o → AllPairs S (filter_map f xs) → AllPairs S (Rattle.std.specs.List.cons_option o (filter_map f xs))
        by None is rest = rest
        by (Some v) is rest = AllPairs-cons S v (filter_map f xs)
            (mapped-All (R x) (S v) (λ y w r e. gives x y v w r is e) xs (AllPairs-head R x xs all)) rest
