-- A log that leads to every place once picks a permutation.
use Rattle.std.proofs.Common.{◌≡◌, ℕ, zero, suc, ◌+◌, ◌<◌, Bool, true, false, cond, List, [], ◌∷◌, ◌++◌, length, map, IsPermutation, Option, None, Some, slice_get, option_map, option_to_list, refl, sym, ap, ap₂, ◌∙◌, subst, true≢false, arith}
use Rattle.std.proofs.lemmas.Option.{none-some, same_Some, slice_get-map}
use Rattle.std.proofs.lemmas.List.{length-map}
use Rattle.std.proofs.lemmas.List.Sorted.{IsPermutation-refl, IsPermutation-sym, IsPermutation-trans, IsPermutation-cons, IsPermutation-middle, IsPermutation-append_right}
use Rattle.std.specs.VecDeque.{deque_capacity}
use Rattle.pin_recent.specs.Recent.{IsChanged, given}
use Rattle.pin_recent.specs.declared.log.Log.{Log}
use Rattle.pin_recent.specs.declared.store.Store.{Store}
use Rattle.pin_recent.specs.Sound.{IsPassed, Ordered, Tied, bare, numbers, picked}
use Rattle.pin_recent.proofs.Places.{at_below}
use Rattle.pin_recent.proofs.Columns.{length-bare, length-numbers}

-- the places are one
abbrev one_place : ℕ → ℕ → Bool
one_place zero zero = true
one_place zero (suc q) = false
one_place (suc p) zero = false
one_place (suc p) (suc q) = one_place p q

one_place-refl : (p : ℕ) → one_place p p ≡ true
one_place-refl zero = refl
one_place-refl (suc p) = one_place-refl p

one_place-true : (p q : ℕ) → one_place p q ≡ true → p ≡ q
one_place-true zero zero same = refl
one_place-true zero (suc q) same = absurd (true≢false (sym same))
one_place-true (suc p) zero same = absurd (true≢false (sym same))
one_place-true (suc p) (suc q) same = ap suc (one_place-true p q same)

-- how often the place stands in the log
abbrev pub standing : ℕ → List ℕ → ℕ
standing place [] = 0
standing place (p ∷ log) = cond (one_place place p) 1 0 + standing place log

standing_none : (log : List ℕ) (place : ℕ) → ((i : ℕ) → slice_get log i ≡ Some place → ⊥) → standing place log ≡ 0
standing_none [] place none = refl
standing_none (p ∷ log) place none = by (one_place place p) refl (standing_none log place (λ i. none (suc i)))
  where
    by : (b : Bool) → one_place place p ≡ b → standing place log ≡ 0 → cond b 1 0 + standing place log ≡ 0
    by true same rest = absurd (none 0 (ap Some (sym (one_place-true place p same))))
    by false other rest = omega arith

standing_once : (log : List ℕ) (place i : ℕ) → slice_get log i ≡ Some place → ((j : ℕ) → slice_get log j ≡ Some place → j ≡ i)
    → standing place log ≡ 1
standing_once [] place i at only = absurd (none-some place at)
standing_once (p ∷ log) place zero at only =
    let here : cond {A = ℕ} (one_place place p) 1 0 ≡ 1 = ap (λ q. cond {A = ℕ} (one_place place q) 1 0) (same_Some p place at) ∙ ap (λ b. cond {A = ℕ} b 1 0) (one_place-refl place) in
    let rest : standing place log ≡ 0 = standing_none log place (λ j there. let e : suc j ≡ 0 = only (suc j) there in omega arith) in
    omega arith
standing_once (p ∷ log) place (suc i) at only =
    by (one_place place p) refl (standing_once log place i at (λ j there. let e : suc j ≡ suc i = only (suc j) there in omega arith))
  where
    by : (b : Bool) → one_place place p ≡ b → standing place log ≡ 1 → cond b 1 0 + standing place log ≡ 1
    by true same rest = let e : 0 ≡ suc i = only 0 (ap Some (sym (one_place-true place p same))) in absurd (omega arith)
    by false other rest = omega arith

-- the log without the first place, the others one lower
abbrev lowered : List ℕ → List ℕ
lowered [] = []
lowered (zero ∷ log) = lowered log
lowered (suc p ∷ log) = p ∷ lowered log

standing-lowered : (place : ℕ) (log : List ℕ) → standing place (lowered log) ≡ standing (suc place) log
standing-lowered place [] = refl
standing-lowered place (zero ∷ log) = omega (arith, standing-lowered place log)
standing-lowered place (suc p ∷ log) = ap (λ n. cond (one_place place p) 1 0 + n) (standing-lowered place log)

module _ {X : Type 0} where
  picked-empty : (log : List ℕ) → picked {X = X} [] log ≡ []
  picked-empty [] = refl
  picked-empty (p ∷ log) = picked-empty log

  without_first : (x : X) (xs : List X) (log : List ℕ) → standing 0 log ≡ 0 → picked (x ∷ xs) log ≡ picked xs (lowered log)
  without_first x xs [] none = refl
  without_first x xs (zero ∷ log) none = absurd (omega arith)
  without_first x xs (suc p ∷ log) none = ap (λ l. option_to_list (slice_get xs p) ++ l) (without_first x xs log (omega arith))

  with_first : (x : X) (xs : List X) (log : List ℕ) → standing 0 log ≡ 1 → IsPermutation (x ∷ picked xs (lowered log)) (picked (x ∷ xs) log)
  with_first x xs [] once = absurd (omega arith)
  with_first x xs (zero ∷ log) once =
      subst (λ l. IsPermutation (x ∷ picked xs (lowered log)) (x ∷ l)) (sym (without_first x xs log (omega arith)))
      (IsPermutation-refl (x ∷ picked xs (lowered log)))
  with_first x xs (suc p ∷ log) once =
      let here = option_to_list (slice_get xs p) in
      let rest = picked xs (lowered log) in
      IsPermutation-trans _ _ _
      (IsPermutation-sym _ _ (IsPermutation-middle here x rest))
      (IsPermutation-append_right here _ _ (with_first x xs log (omega arith)))

  pub picked_permutes : (xs : List X) (log : List ℕ) → ((place : ℕ) → place < length xs → standing place log ≡ 1) → IsPermutation xs (picked xs log)
  picked_permutes [] log once = subst (λ l. IsPermutation [] l) (sym (picked-empty log)) (IsPermutation-refl [])
  picked_permutes (x ∷ xs) log once =
      IsPermutation-trans _ _ _
      (IsPermutation-cons x xs _ (picked_permutes xs (lowered log) (λ place within. standing-lowered place log ∙ once (suc place) (omega arith))))
      (with_first x xs log (once 0 (omega arith)))

module _ {X Y : Type 0} (f : X → Y) where
  pub picked-map : (xs : List X) (log : List ℕ) → picked (map f xs) log ≡ map f (picked xs log)
  picked-map xs [] = refl
  picked-map xs (p ∷ log) = ap₂ (λ o l. option_to_list o ++ l) (slice_get-map f xs p) (picked-map xs log) ∙ by (slice_get xs p)
    where
      by : (o : Option X) → option_to_list (option_map f o) ++ map f (picked xs log) ≡ map f (option_to_list o ++ picked xs log)
      by None = refl
      by (Some x) = refl

-- each place stands once in a log that is tied to the places' numbers
pub tied_once : (first : ℕ) (log ns : List ℕ) → Tied first log ns → (place : ℕ) → place < length ns → standing place log ≡ 1
tied_once first log ns tied place within =
    let n = at_below ns place within in
    let at = tied.stands place n.0 n.1 in
    let number : n.0 ≡ first + at.0 = at.1 in
    standing_once log place at.0 at.2 (λ j there. let other : n.0 ≡ first + j = tied.once j place n.0 there n.1 in omega arith)

module _ {C K V : Type 0} (changes : C → K → V → V → C → Type 0) (first last : C) (log : List ℕ) where
  -- what was passed in the map's order was changed in the log's
  pub changed_in_order : (old new : List (K × V)) → ((place : ℕ) → place < length old → standing place log ≡ 1)
      → IsPassed changes first last old new → IsChanged changes first last (picked old log) (picked new log)
  changed_in_order old new once p = record {
    changed = picked p.passed log;
    was = sym (picked-map (λ (c : (K × V) × V). c.0) p.passed log) ∙ ap (λ l. picked l log) p.was;
    is = sym (picked-map given p.passed log) ∙ ap (λ l. picked l log) p.is;
    asked = p.passed;
    each = IsPermutation-sym _ _ (picked_permutes p.passed log (λ place within. once place (omega (arith, ap length p.was, length-map p.passed (λ (c : (K × V) × V). c.0)))));
    asks = p.asks;
  }

  pub length-changed : (old new : List (K × V)) → IsPassed changes first last old new → length (picked new log) ≡ length (picked old log)
  length-changed old new p =
      ap (λ l. length (picked l log)) (sym p.is)
      ∙ ap length (picked-map given p.passed log)
      ∙ length-map (picked p.passed log) given
      ∙ sym (length-map (picked p.passed log) (λ (c : (K × V) × V). c.0))
      ∙ ap length (sym (picked-map (λ (c : (K × V) × V). c.0) p.passed log))
      ∙ ap (λ l. length (picked l log)) p.was

module _ {K V S H : Type 0} where
  pub stored_once : (s : Store K V S H) → Ordered s → (place : ℕ) → place < length (bare s.map.entries) → standing place s.log.places.items ≡ 1
  stored_once s ordered place within =
      tied_once s.log.first s.log.places.items (numbers s.map.entries) ordered.tied place
      (omega (arith, length-bare s.map.entries, length-numbers s.map.entries))

  -- the store is in order as before, with the same log and the same numbers
  pub ordered_still : {C : Type 0} (changes : C → K → V → V → C → Type 0) (first last : C) (s t : Store K V S H) → Ordered s
      → numbers t.map.entries ≡ numbers s.map.entries → t.log ≡ s.log → IsPassed changes first last (bare s.map.entries) (bare t.map.entries) → Ordered t
  ordered_still changes first last s t ordered same_numbers same_log passed =
      let len : length t.map.entries ≡ length s.map.entries = omega (arith, ap length same_numbers, length-numbers s.map.entries, length-numbers t.map.entries) in
      let log = s.log.places.items in
      record {
        tied = subst (λ (l : Log). Tied l.first l.places.items (numbers t.map.entries)) (sym same_log)
            (subst (λ ns. Tied s.log.first log ns) (sym same_numbers) ordered.tied);
        all = omega (
          arith,
          ordered.all,
          length-changed changes first last log (bare s.map.entries) (bare t.map.entries) passed,
          ap (λ (l : Log). length (picked (bare t.map.entries) l.places.items)) same_log,
        );
        few = omega (arith, ordered.few);
        room = omega (arith, ordered.room, ap (λ (l : Log). deque_capacity l.places) same_log);
      }
