-- A pin that is used goes last. `eq` is `==` of names.
use Rattle.std.proofs.Common.{◌≡◌, ◌≢◌, ℕ, Bool, true, false, cond, List, [], ◌∷◌, ◌++◌, map, drop, slice_get, Option, Some, option_map, option_to_list, refl, sym, ap, ap₂, ◌∙◌, subst}
use Rattle.std.proofs.lemmas.List.{map-append}
use Rattle.std.proofs.lemmas.Option.{none-some, same_Some}
use Rattle.std.specs.Bool.{Decides}
use Rattle.std.specs.Map.{lookup, lookup_key, remove_entry}
use Rattle.pin_recent.specs.Recent.{touched}
use Rattle.pin_set.specs.declared.pin.PinId.{PinId}
use Rattle.pin_set.specs.declared.table_pin.TablePin.{TablePin}
use Rattle.lb_desk_model.specs.Serves.{StandsBetween}
use Rattle.pin_table.specs.declared.held.Held.{Held}
use Rattle.pin_table.specs.Counted.{listed, AreApart}
use Rattle.pin_table.specs.Pins.{held_pin, used_in, Stands, IsTakenOut, IsUsed}
use Rattle.pin_table.proofs.Apart.{All-without}
use Rattle.pin_table.proofs.Found.{found, not_equal}

-- the pin as a pair
abbrev pub held_of : TablePin → Held
held_of p = record { place = p.pin.place; cost = p.pin.cost; last_use = p.last_use }

abbrev pub pairs_of : List TablePin → List (PinId × Held)
pairs_of pins = map (λ p. (p.pin.id, held_of p)) pins

pub listed-pairs_of : (pins : List TablePin) → listed (pairs_of pins) ≡ pins
listed-pairs_of [] = refl
listed-pairs_of (p ∷ pins) = ap (λ l. p ∷ l) (listed-pairs_of pins)

pub pairs_of-listed : (pairs : List (PinId × Held)) → pairs ≡ pairs_of (listed pairs)
pairs_of-listed [] = refl
pairs_of-listed (e ∷ pairs) = ap (λ l. e ∷ l) (pairs_of-listed pairs)

pub listed-push : (pairs : List (PinId × Held)) (name : PinId) (held : Held) → listed (pairs ++ (name, held) ∷ []) ≡ listed pairs ++ held_pin name held ∷ []
listed-push pairs name held = map-append (λ (e : PinId × Held). held_pin e.0 e.1) pairs ((name, held) ∷ [])

pub listed-first : (pairs : List (PinId × Held)) → slice_get (listed pairs) 0 ≡ option_map (λ e. held_pin e.0 e.1) (slice_get pairs 0)
listed-first [] = refl
listed-first (e ∷ pairs) = refl

pub listed-rest : (pairs : List (PinId × Held)) → listed (drop 1 pairs) ≡ drop 1 (listed pairs)
listed-rest [] = refl
listed-rest (e ∷ pairs) = refl

pub first_is : {X : Type 0} (xs : List X) (x : X) → Some x ≡ slice_get xs 0 → xs ≡ x ∷ drop 1 xs
first_is [] x is = absurd (none-some x (sym is))
first_is (y ∷ xs) x is = ap (λ z. z ∷ xs) (same_Some y x (sym is))

-- the pin after a use at this place and moment
abbrev pub held_in : Held → Option ℕ → ℕ → Held
held_in held place now = record { place = place; cost = held.cost; last_use = now }

module _ (eq : PinId → PinId → Bool) (decides : (a b : PinId) → Decides (eq a b) (a ≡ b)) where
  earlier_differs : (name : PinId) (p : TablePin) (before : List TablePin) (found : TablePin) (after : List TablePin) → AreApart (p ∷ (before ++ found ∷ after))
      → found.pin.id ≡ name → eq name p.pin.id ≡ false
  earlier_differs name p before found after apart named =
      let other : found.pin.id ≢ p.pin.id = (All-without (λ (q : TablePin). q.pin.id ≢ p.pin.id) before found after apart.0).1 in
      not_equal eq decides name p.pin.id (λ same. other (named ∙ sym same))

  found_pairs : (name : PinId) (before : List TablePin) (found : TablePin) (after : List TablePin) → AreApart (before ++ found ∷ after)
      → found.pin.id ≡ name → lookup (eq name) (pairs_of (before ++ found ∷ after)) ≡ Some (held_of found)
  found_pairs name [] found after apart named =
      ap (λ t. cond t (Some (held_of found)) (lookup (eq name) (pairs_of after))) ((decides name found.pin.id).1 (sym named))
  found_pairs name (p ∷ before) found after apart named =
      ap (λ t. cond t (Some (held_of p)) (lookup (eq name) (pairs_of (before ++ found ∷ after)))) (earlier_differs name p before found after apart named)
      ∙ found_pairs name before found after apart.1 named

  used_pairs : (name : PinId) (held : Held) (before : List TablePin) (found : TablePin) (after : List TablePin) → AreApart (before ++ found ∷ after)
      → found.pin.id ≡ name → listed (touched (eq name) held (pairs_of (before ++ found ∷ after))) ≡ before ++ after ++ held_pin name held ∷ []
  used_pairs name held [] found after apart named =
      let here : eq name found.pin.id ≡ true = (decides name found.pin.id).1 (sym named) in
      let rest = pairs_of after in
      ap (λ t. listed (cond t rest ((found.pin.id, held_of found) ∷ remove_entry (eq name) rest)
      ++ option_to_list (option_map (λ (k : PinId). (k, held)) (cond t (Some found.pin.id) (lookup_key (eq name) rest))))) here
      ∙ listed-push rest found.pin.id held
      ∙ ap₂ (λ (l : List TablePin) (n : PinId). l ++ held_pin n held ∷ []) (listed-pairs_of after) named
  used_pairs name held (p ∷ before) found after apart named =
      let here = earlier_differs name p before found after apart named in
      let rest = pairs_of (before ++ found ∷ after) in
      ap (λ t. listed (cond t rest ((p.pin.id, held_of p) ∷ remove_entry (eq name) rest)
      ++ option_to_list (option_map (λ (k : PinId). (k, held)) (cond t (Some p.pin.id) (lookup_key (eq name) rest))))) here
      ∙ ap (λ l. p ∷ l) (used_pairs name held before found after apart.1 named)

  -- a pin that stands between others is found by its name, so that what stands there is what is held
  pub one_pin : (name : PinId) (held : Held) (pins : List TablePin) → AreApart pins → Stands name held pins
      → (before : List TablePin) (found : TablePin) (after : List TablePin) → StandsBetween name pins before found after → found ≡ held_pin name held
  one_pin name held pins apart stands before found after between =
      let at : lookup (eq name) (pairs_of pins) ≡ Some (held_of found) =
      ap (λ l. lookup (eq name) (pairs_of l)) between.is ∙ found_pairs name before found after (subst AreApart between.is apart) between.named in
      let also : lookup (eq name) (pairs_of pins) ≡ Some held =
      ap (λ l. lookup (eq name) (pairs_of l)) stands.2.is ∙ found_pairs name stands.0 (held_pin name held) stands.1 (subst AreApart stands.2.is apart) refl in
      ap₂ held_pin between.named (same_Some (held_of found) held (sym at ∙ also))

  -- a touch of the pairs puts the pin last
  pub touched_listed : (name : PinId) (held : Held) (pairs : List (PinId × Held)) (before : List TablePin) (found : TablePin) (after : List TablePin) → AreApart (listed pairs)
      → StandsBetween name (listed pairs) before found after → listed (touched (eq name) held pairs) ≡ before ++ after ++ held_pin name held ∷ []
  touched_listed name held pairs before found after apart stands =
      let is : pairs ≡ pairs_of (before ++ found ∷ after) = pairs_of-listed pairs ∙ ap pairs_of stands.is in
      ap (λ l. listed (touched (eq name) held l)) is
      ∙ used_pairs name held before found after (subst AreApart stands.is apart) stands.named

  removed_pairs : (name : PinId) (before : List TablePin) (found : TablePin) (after : List TablePin) → AreApart (before ++ found ∷ after)
      → found.pin.id ≡ name → listed (remove_entry (eq name) (pairs_of (before ++ found ∷ after))) ≡ before ++ after
  removed_pairs name [] found after apart named =
      let here : eq name found.pin.id ≡ true = (decides name found.pin.id).1 (sym named) in
      let rest = pairs_of after in
      ap (λ t. listed (cond t rest ((found.pin.id, held_of found) ∷ remove_entry (eq name) rest))) here ∙ listed-pairs_of after
  removed_pairs name (p ∷ before) found after apart named =
      let here = earlier_differs name p before found after apart named in
      let rest = pairs_of (before ++ found ∷ after) in
      ap (λ t. listed (cond t rest ((p.pin.id, held_of p) ∷ remove_entry (eq name) rest))) here
      ∙ ap (λ l. p ∷ l) (removed_pairs name before found after apart.1 named)

  -- a pair that is taken out is the pin of its name
  pub taken_out : (name : PinId) (held : Held) (pairs : List (PinId × Held)) → AreApart (listed pairs) → lookup (eq name) pairs ≡ Some held
      → IsTakenOut name held (listed pairs) (listed (remove_entry (eq name) pairs))
  taken_out name held pairs apart at =
      let stands = found eq decides name pairs held at in
      let is : pairs ≡ pairs_of (stands.0 ++ held_pin name held ∷ stands.1) = pairs_of-listed pairs ∙ ap pairs_of stands.2.is in (
        stands.0,
        stands.1,
        stands.2,
        ap (λ l. listed (remove_entry (eq name) l)) is
            ∙ removed_pairs name stands.0 (held_pin name held) stands.1 (subst AreApart stands.2.is apart) refl,
      )

  -- which is a use of it
  pub touched_used : (name : PinId) (held : Held) (place : Option ℕ) (now : ℕ) (pairs : List (PinId × Held)) → AreApart (listed pairs) → Stands name held (listed pairs)
      → IsUsed name place now (listed pairs) (listed (touched (eq name) (held_in held place now) pairs))
  touched_used name held place now pairs apart stands before found after between =
      touched_listed name (held_in held place now) pairs before found after apart between
      ∙ ap (λ (p : TablePin). before ++ after ++ used_in p place now ∷ []) (sym (one_pin name held (listed pairs) apart stands before found after between))
