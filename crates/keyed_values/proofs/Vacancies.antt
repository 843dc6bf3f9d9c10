-- How each change of the values keeps the vacant keys.
use Rattle.std.proofs.Common.{◌≡◌, ◌≢◌, ℕ, zero, suc, ◌+◌, ◌<◌, List, [], ◌∷◌, ◌++◌, length, get_or, set, Option, Some, None, is_some, cond, count_by, slice_get, refl, sym, ap, ◌∙◌, arith, length-set}
use Rattle.std.proofs.lemmas.List.{length_push, get_or-set_same, get_or-set_other, get_or_past}
use Rattle.std.proofs.lemmas.List.Sums.{sum_by-cons, sum_by-set}
use Rattle.std.proofs.lemmas.Option.{slice_get_within, slice_get-get_or, get_or_from_slice_get}
use Rattle.keyed_values.specs.Keys.{Keyed, HasKey, at, held}
use Rattle.keyed_values.specs.Vacancies.{Each, AreApart, IsSound, next_of}

each_map : {A : Type 0} (P Q R : A → Type 0) → ((x : A) → P x → Q x → R x) → (xs : List A) → Each P xs → Each Q xs → Each R xs
each_map P Q R both [] p q = tt
each_map P Q R both (x ∷ xs) p q = (both x p.0 q.0, each_map P Q R both xs p.1 q.1)

each_snoc : {A : Type 0} (P : A → Type 0) (xs : List A) (x : A) → Each P xs → P x → Each P (xs ++ x ∷ [])
each_snoc P [] x all last = (last, tt)
each_snoc P (y ∷ ys) x all last = (all.0, each_snoc P ys x all.1 last)

each_front : {A : Type 0} (P : A → Type 0) (xs : List A) (x : A) → Each P (xs ++ x ∷ []) → Each P xs × P x
each_front P [] x all = (tt, all.0)
each_front P (y ∷ ys) x all = let rest = each_front P ys x all.1 in ((all.0, rest.0), rest.1)

apart_snoc : (xs : List ℕ) (x : ℕ) → AreApart xs → Each (λ other. other ≢ x) xs → AreApart (xs ++ x ∷ [])
apart_snoc [] x apart others = (tt, tt)
apart_snoc (y ∷ ys) x apart others =
    (each_snoc (λ other. other ≢ y) ys x apart.0 (λ e. others.0 (sym e)), apart_snoc ys x apart.1 others.1)

apart_front : (xs : List ℕ) (x : ℕ) → AreApart (xs ++ x ∷ []) → AreApart xs × Each (λ other. other ≢ x) xs
apart_front [] x apart = (tt, tt)
apart_front (y ∷ ys) x apart =
    let first = each_front (λ other. other ≢ y) ys x apart.0 in
    let rest = apart_front ys x apart.1 in
    ((first.0, rest.0), ((λ e. first.1 (sym e)), rest.1))

-- the key that was given back last comes next
pub next_is_last : (end : ℕ) (xs : List ℕ) (x : ℕ) → next_of end (xs ++ x ∷ []) ≡ x
next_is_last end [] x = refl
next_is_last end (y ∷ []) x = refl
next_is_last end (y ∷ z ∷ more) x = next_is_last end (z ∷ more) x

module _ {T : Type 0} where
  vacant_still : (places : List (Option T)) (key other : ℕ) (value : Option T) → other ≢ key → slice_get places other ≡ Some None
      → slice_get (set places key value) other ≡ Some None
  vacant_still places key other value differs vacant =
      let within = slice_get_within places other None vacant in
      slice_get-get_or (set places key value) other None (omega (arith, length-set places key value))
      ∙ ap Some (get_or-set_other places key other value None differs ∙ get_or_from_slice_get places other None None vacant)

  all_vacant_still : (places : List (Option T)) (key : ℕ) (value : Option T) (xs : List ℕ) → Each (λ other. other ≢ key) xs
      → Each (λ other. slice_get places other ≡ Some None) xs → Each (λ other. slice_get (set places key value) other ≡ Some None) xs
  all_vacant_still places key value = each_map (λ other. other ≢ key) (λ other. slice_get places other ≡ Some None)
      (λ other. slice_get (set places key value) other ≡ Some None) (λ other. vacant_still places key other value)

  -- how many values there are after a write
  pub count_set : (places : List (Option T)) (key : ℕ) (value : Option T) → key < length places
      → count_by is_some (set places key value) + cond (is_some (get_or places key None)) 1 0 ≡ count_by is_some places + cond (is_some value) 1 0
  count_set places key value within = sum_by-set (λ o. cond (is_some o) 1 0) places key value None within

  -- a vacant key
  pub is_vacant : (places : List (Option T)) (rest : List ℕ) (key : ℕ) → IsSound places (rest ++ key ∷ [])
      → (key < length places) × (get_or places key None ≡ None)
  is_vacant places rest key sound =
      let vacant = (each_front (λ other. slice_get places other ≡ Some None) rest key sound.each).1 in
      (slice_get_within places key None vacant, get_or_from_slice_get places key None None vacant)

  -- a value comes to the key that is next
  pub fill : (places : List (Option T)) (rest : List ℕ) (key : ℕ) (value : T) → IsSound places (rest ++ key ∷ [])
      → IsSound (set places key (Some value)) rest
  fill places rest key value sound =
      let vacant = each_front (λ other. slice_get places other ≡ Some None) rest key sound.each in
      let apart = apart_front rest key sound.apart in
      let here = is_vacant places rest key sound in
      let counts = count_set places key (Some value) here.0 in
      let was : cond {A = ℕ} (is_some (get_or places key None)) 1 0 ≡ 0 = ap (λ (o : Option T). cond (is_some o) 1 0) here.1 in
      record {
        each = all_vacant_still places key (Some value) rest apart.1 vacant.0;
        apart = apart.0;
        counted = omega (arith, sound.counted, length_push rest key, length-set places key (Some value), counts, was);
      }

  not_this : (places : List (Option T)) (key : ℕ) (value : T) → get_or places key None ≡ Some value → (xs : List ℕ)
      → Each (λ other. slice_get places other ≡ Some None) xs → Each (λ other. other ≢ key) xs
  not_this places key value found [] each = tt
  not_this places key value found (x ∷ xs) each = (
    (λ same. let here = get_or_from_slice_get places x None None each.0 in
        let there : get_or places x None ≡ Some value = ap (λ k. get_or places k None) same ∙ found in cc),
    not_this places key value found xs each.1,
  )

  -- the value at a key was taken
  pub vacate : (places : List (Option T)) (vacant : List ℕ) (key : ℕ) (value : T) → key < length places → get_or places key None ≡ Some value
      → IsSound places vacant → IsSound (set places key None) (vacant ++ key ∷ [])
  vacate places vacant key value within found sound =
      let others = not_this places key value found vacant sound.each in
      let counts = count_set places key None within in
      let was : cond {A = ℕ} (is_some (get_or places key None)) 1 0 ≡ 1 = ap (λ (o : Option T). cond (is_some o) 1 0) found in
      let here : slice_get (set places key None) key ≡ Some None =
      slice_get-get_or (set places key None) key None (omega (arith, length-set places key None, within)) ∙ ap Some (get_or-set_same places key None None within) in
      record {
        each = each_snoc (λ other. slice_get (set places key None) other ≡ Some None) vacant key
            (all_vacant_still places key None vacant others sound.each) here;
        apart = apart_snoc vacant key sound.apart others;
        counted = omega (arith, sound.counted, length_push vacant key, length-set places key None, counts, was);
      }

  -- a key that has a value has a place
  pub HasKey_within : (keyed : Keyed T) (places : List (Option T)) (key : ℕ) → keyed.places ≡ places → HasKey keyed key → key < length places
  HasKey_within keyed places key same present = grind (arith, get_or_past, same)

  none_counted : (places : List (Option T)) → count_by is_some places ≡ 0 → (key : ℕ) → get_or places key None ≡ None
  none_counted [] none key = refl
  none_counted (None ∷ rest) none zero = refl
  none_counted (None ∷ rest) none (suc key) = none_counted rest (omega (arith, none, sum_by-cons (λ o. cond {A = ℕ} (is_some o) 1 0) None rest)) key
  none_counted (Some value ∷ rest) none key = absurd (omega (arith, none, sum_by-cons (λ o. cond {A = ℕ} (is_some o) 1 0) (Some value) rest))

  -- with no value no key has one
  pub none_held : (keyed : Keyed T) → held keyed ≡ 0 → (key : ℕ) → at keyed key ≡ None
  none_held keyed none = none_counted keyed.places none
