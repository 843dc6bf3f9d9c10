-- Pairs that are copied in the map's order.
use Rattle.std.proofs.Common.{◌≡◌, ℕ, ◌+◌, List, [], ◌∷◌, ◌++◌, length, map, refl, sym, ap, ap₂, ◌∙◌, subst, append_assoc, append-nil, arith}
use Rattle.std.proofs.lemmas.List.{length-append, length-map}
use Rattle.pin_recent.specs.declared.stamped.Stamped.{Stamped}
use Rattle.pin_recent.specs.Sound.{bare, picked}
use Rattle.pin_recent.proofs.Columns.{length-bare}
use Rattle.pin_recent.proofs.Permuted.{picked-map}

module _ {K V : Type 0} (is_clone : K → K → Type 0) where
  -- with the entries that are still to come the pairs are all
  pub record Copying (all rest : List (K × Stamped V)) (pairs : List (K × V)) : Type 0 where
    pub whole : length pairs + length rest ≡ length all
    pub exact : ((key clone : K) → is_clone key clone → clone ≡ key) → pairs ++ bare rest ≡ bare all

  pub copying_more : (all rest : List (K × Stamped V)) (pairs : List (K × V)) (entry : K × Stamped V) (key : K) → Copying all (entry ∷ rest) pairs
      → is_clone entry.0 key → Copying all rest (pairs ++ (key, entry.1.value) ∷ [])
  copying_more all rest pairs entry key t cloned = record {
    whole = omega (arith, length-append pairs ((key, entry.1.value) ∷ []), t.whole);
    exact = λ equal.
        append_assoc pairs ((key, entry.1.value) ∷ []) (bare rest)
        ∙ ap (λ k. pairs ++ (k, entry.1.value) ∷ bare rest) (equal entry.0 key cloned)
        ∙ t.exact equal;
  }

abbrev units : {A : Type 0} → List A → List (Unit {0})
units xs = map (λ _. tt) xs

module _ {X Y : Type 0} where
  same_units : (xs : List X) (ys : List Y) → length xs ≡ length ys → units xs ≡ units ys
  same_units [] [] same = refl
  same_units [] (y ∷ ys) same = absurd (omega arith)
  same_units (x ∷ xs) [] same = absurd (omega arith)
  same_units (x ∷ xs) (y ∷ ys) same = ap (λ l. tt ∷ l) (same_units xs ys (omega arith))

  -- how many are picked doesn't hang on what they are
  length-picked : (xs : List X) (ys : List Y) (places : List ℕ) → length xs ≡ length ys → length (picked xs places) ≡ length (picked ys places)
  length-picked xs ys places same =
      sym (length-map (picked xs places) (λ _. tt))
      ∙ ap length (sym (picked-map (λ _. tt) xs places) ∙ ap (λ l. picked l places) (same_units xs ys same) ∙ picked-map (λ _. tt) ys places)
      ∙ length-map (picked ys places) (λ _. tt)

module _ {K V : Type 0} (is_clone : K → K → Type 0) (start all rest : List (K × Stamped V)) (pairs : List (K × V)) (log places : List ℕ)
    (t : Copying is_clone start rest pairs) (none : rest ≡ []) (start_is : start ≡ all) (places_are : places ≡ log) where
  all_copied : Copying is_clone all [] pairs
  all_copied = subst (λ es. Copying is_clone es [] pairs) start_is (subst (λ es. Copying is_clone start es pairs) none t)

  pub copied_whole : length (picked (bare all) log) ≡ length all → length (picked pairs places) ≡ length pairs
  copied_whole whole =
      let t = all_copied in
      ap (λ l. length (picked pairs l)) places_are ∙ omega (arith, length-picked pairs (bare all) log (omega (arith, t.whole, length-bare all)), whole, t.whole)

  pub copied_exact : ((key clone : K) → is_clone key clone → clone ≡ key) → picked pairs places ≡ picked (bare all) log
  copied_exact equal = ap₂ picked (sym (append-nil pairs) ∙ all_copied.exact equal) places_are
