-- Pins of distinct names, in two orders and at two places.
use Rattle.std.proofs.Common.{◌≡◌, ℕ, ◌+◌, ◌<◌, suc, Bool, true, false, not, cond, Option, List, [], ◌∷◌, ◌++◌, length, map, refl, sym, ap, ◌∙◌, subst, inl, inr, arith}
use Rattle.std.specs.Prelude.{filter, count_by, AllPairs, Contains, slice_index_or}
use Rattle.std.specs.List.{zip}
use Rattle.std.specs.List.Sorted.{IsPermutation}
use Rattle.std.proofs.lemmas.Bool.{cases_order}
use Rattle.std.proofs.lemmas.List.{get_or_default, get_or-map, length-map}
use Rattle.std.proofs.lemmas.List.Sorted.{Contains-permutation, IsPermutation-sym, IsPermutation-trans, IsPermutation-map, IsPermutation-middle, IsPermutation-to_front}
use Rattle.std.proofs.lemmas.List.Sums.{sum_by-cons}
use Rattle.lb_types_pins.specs.Kinds.{same_place}
use Rattle.lb_types_pins.proofs.Order.{same_place-true, same_place-refl}
use Rattle.pin_set.specs.declared.pin.Pin.{Pin}
use Rattle.pin_set.specs.declared.pin.PinId.{PinId}
use Rattle.pin_set.specs.Assignments.{moved}
use Rattle.pin_set.specs.Views.{kind_of}
use Rattle.pin_set.specs.declared.table_pin.TablePin.{TablePin}
use Rattle.lb_desk_model.specs.Installs.{moved_to}
use Rattle.lb_desk_model.specs.Serves.{IsNew}
use Rattle.lb_desk_law.proofs.Apart.{Apart, all_moved}
use Rattle.lb_desk_law.proofs.Lawful.{IdsDiffer, pin_of, distinct-pins}

-- among pins of distinct names two of one name are one
pub one_each : (all : List Pin) → AllPairs IdsDiffer all → (a b : Pin) → Contains all a → Contains all b → a.id ≡ b.id → a ≡ b
one_each all distinct a b i j same =
    let second : slice_index_or all j.0 a ≡ b = get_or_default all j.0 a b j.1 ∙ j.2 in
    elim (cases_order i.0 j.0) [
      | inl here ↦
          let there : slice_index_or all i.0 a ≡ slice_index_or all j.0 a = ap (λ (k : ℕ). slice_index_or all k a) here in
          sym i.2 ∙ (there ∙ second)
      | inr other ↦ elim other [
        | inl before ↦
            let ids : (slice_index_or all i.0 a).id ≡ (slice_index_or all j.0 a).id =
            ap (λ (p : Pin). p.id) i.2 ∙ (same ∙ sym (ap (λ (p : Pin). p.id) second)) in
            absurd (distinct i.0 j.0 a before j.1 ids)
        | inr behind ↦
            let ids : (slice_index_or all j.0 a).id ≡ (slice_index_or all i.0 a).id =
            ap (λ (p : Pin). p.id) second ∙ (sym same ∙ sym (ap (λ (p : Pin). p.id) i.2)) in
            absurd (distinct j.0 i.0 a behind i.1 ids)
      ]
    ]

in-middle : (before : List TablePin) (x : TablePin) (after : List TablePin) → Contains (map pin_of (before ++ x ∷ after)) x.pin
in-middle [] x after = (0, omega arith, refl)
in-middle (b ∷ before) x after =
    let rest = in-middle before x after in
    let below = rest.1 in
    (suc rest.0, omega arith, rest.2)

-- the used pin is put last, and is as it was
pub kept-permuted : (before : List TablePin) (found : TablePin) (after : List TablePin) (used : TablePin) → used.pin ≡ found.pin
    → IsPermutation (map pin_of (before ++ found ∷ after)) (map pin_of (before ++ after ++ used ∷ []))
kept-permuted before found after used same =
    let from = map pin_of (before ++ found ∷ after) in
    let to = map pin_of (before ++ after ++ used ∷ []) in
    let others = map pin_of (before ++ after) in
    let taken = IsPermutation-map pin_of (before ++ found ∷ after) (found ∷ (before ++ after)) (IsPermutation-middle before found after) in
    let put = IsPermutation-map pin_of (before ++ after ++ used ∷ []) (used ∷ (before ++ after)) (IsPermutation-to_front (before ++ after) used) in
    let back : IsPermutation (used.pin ∷ others) to = IsPermutation-sym to (used.pin ∷ others) put in
    IsPermutation-trans from (found.pin ∷ others) to taken (subst (λ (p : Pin). IsPermutation (p ∷ others) to) same back)

-- so a pin that was put last and is in the same view is as it was
pub moved-same : (before : List TablePin) (found : TablePin) (after : List TablePin) (used : TablePin) → used.pin.id ≡ found.pin.id
    → Apart (before ++ found ∷ after)
    → IsPermutation (map pin_of (before ++ found ∷ after)) (map pin_of (before ++ after ++ used ∷ [])) → used.pin ≡ found.pin
moved-same before found after used same apart order =
    let from = map pin_of (before ++ found ∷ after) in
    let to = map pin_of (before ++ after ++ used ∷ []) in
    one_each from (distinct-pins (before ++ found ∷ after) apart) used.pin found.pin
    (Contains-permutation to from used.pin (IsPermutation-sym from to order) (in-middle (before ++ after) used []))
    (in-middle before found after) same

-- a pin of a new name is in another view
pub made-differs : (name : PinId) (pins stay : List TablePin) (used : TablePin) → used.pin.id ≡ name → IsNew name pins
    → IsPermutation (map pin_of pins) (map pin_of (stay ++ used ∷ [])) → ⊥
made-differs name pins stay used named unknown order =
    let from = map pin_of pins in
    let to = map pin_of (stay ++ used ∷ []) in
    let found = Contains-permutation to from used.pin (IsPermutation-sym from to order) (in-middle stay used []) in
    let many : length from ≡ length pins = length-map pins pin_of in
    let within = found.1 in
    let below : found.0 < length pins = omega arith in
    let is : slice_index_or from found.0 used.pin ≡ (slice_index_or pins found.0 used).pin = get_or-map pin_of pins found.0 used used.pin below in
    let ids : (slice_index_or pins found.0 used).pin.id ≡ name = ap (λ (p : Pin). p.id) (sym is ∙ found.2) ∙ named in
    unknown found.0 used below ids

-- ---- pins that go

abbrev one_if : Bool → ℕ
one_if true = 1
one_if false = 0

count-cons : {X : Type 0} (p : X → Bool) (x : X) (xs : List X) → count_by p (x ∷ xs) ≡ one_if (p x) + count_by p xs
count-cons p x xs = sum_by-cons (λ y. cond (p y) 1 0) x xs ∙ ap (λ (n : ℕ). n + count_by p xs) (go (p x))
  where
    go : (b : Bool) → cond b 1 0 ≡ one_if b
    go true = refl
    go false = refl

pub filter-count : (p : TablePin → Bool) (xs : List TablePin) → length (filter (λ x. not (p x)) xs) + count_by p xs ≡ length xs
filter-count p [] = omega arith
filter-count p (x ∷ xs) = go (p x) (count-cons p x xs) (filter-count p xs)
  where
    go : (b : Bool) → count_by p (x ∷ xs) ≡ one_if b + count_by p xs → length (filter (λ y. not (p y)) xs) + count_by p xs ≡ length xs
        → length (cond (not b) (x ∷ filter (λ y. not (p y)) xs) (filter (λ y. not (p y)) xs)) + count_by p (x ∷ xs) ≡ suc (length xs)
    go true here rest = omega (arith, here)
    go false here rest = omega (arith, here)

pub none-filtered : (p : TablePin → Bool) (xs : List TablePin) → count_by p xs ≡ 0 → filter (λ x. not (p x)) xs ≡ xs
none-filtered p [] none = refl
none-filtered p (x ∷ xs) none = go (p x) (count-cons p x xs) (none-filtered p xs)
  where
    go : (b : Bool) → count_by p (x ∷ xs) ≡ one_if b + count_by p xs → (count_by p xs ≡ 0 → filter (λ y. not (p y)) xs ≡ xs)
        → cond (not b) (x ∷ filter (λ y. not (p y)) xs) (filter (λ y. not (p y)) xs) ≡ x ∷ xs
    go true here rest = absurd (omega (arith, here, none))
    go false here rest = ap (λ (ys : List TablePin). x ∷ ys) (rest (omega (arith, here, none)))

-- ---- pins at new places

abbrev moved_count : ℕ → List TablePin → List (Option ℕ) → ℕ
moved_count u pins places = moved (map (kind_of u) (map pin_of pins)) places

moved-cons : (u : ℕ) (p : TablePin) (pins : List TablePin) (to : Option ℕ) (places : List (Option ℕ))
    → moved_count u (p ∷ pins) (to ∷ places) ≡ one_if (not (same_place p.pin.place to)) + moved_count u pins places
moved-cons u p pins to places = count-cons _ (kind_of u p.pin, to) (zip (map (kind_of u) (map pin_of pins)) places)

pub none-moved : (u : ℕ) (pins : List TablePin) (places : List (Option ℕ)) → length places ≡ length pins → moved_count u pins places ≡ 0
    → all_moved pins places ≡ pins
none-moved u [] places long none = refl
none-moved u (p ∷ pins) [] long none = absurd (omega arith)
none-moved u (p ∷ pins) (to ∷ places) long none =
    go (same_place p.pin.place to) refl (moved-cons u p pins to places) (none-moved u pins places (omega arith))
  where
    go : (b : Bool) → same_place p.pin.place to ≡ b
        → moved_count u (p ∷ pins) (to ∷ places) ≡ one_if (not b) + moved_count u pins places
        → (moved_count u pins places ≡ 0 → all_moved pins places ≡ pins) → all_moved (p ∷ pins) (to ∷ places) ≡ p ∷ pins
    go true same here rest =
        ap (λ (place : Option ℕ). moved_to p place ∷ all_moved pins places) (sym (same_place-true p.pin.place to same))
        ∙ ap (λ (ps : List TablePin). p ∷ ps) (rest (omega (arith, here, none)))
    go false other here rest = absurd (omega (arith, here, none))

-- each of these pins is in the list
abbrev AllIn : List Pin → List TablePin → Type 0
AllIn all [] = Unit {0}
AllIn all (p ∷ pins) = Contains all p.pin × AllIn all pins

all-in : (all : List Pin) (pins : List TablePin) → ((q : Pin) → Contains (map pin_of pins) q → Contains all q) → AllIn all pins
all-in all [] from = tt
all-in all (p ∷ pins) from =
    (from p.pin (0, omega arith, refl), all-in all pins (λ q c. let below = c.1 in from q (suc c.0, omega arith, c.2)))

stay-there : (u : ℕ) (all : List Pin) → AllPairs IdsDiffer all → (pins : List TablePin) (places : List (Option ℕ)) → AllIn all pins
    → AllIn all (all_moved pins places) → moved_count u pins places ≡ 0
stay-there u all distinct [] places old new = refl
stay-there u all distinct (p ∷ pins) [] old new = refl
stay-there u all distinct (p ∷ pins) (to ∷ places) old new =
    let is : (moved_to p to).pin ≡ p.pin = one_each all distinct (moved_to p to).pin p.pin new.0 old.0 refl in
    let there : to ≡ p.pin.place = ap (λ (q : Pin). q.place) is in
    let same : same_place p.pin.place to ≡ true = ap (same_place p.pin.place) there ∙ same_place-refl p.pin.place in
    let rest = stay-there u all distinct pins places old.1 new.1 in
    let here = moved-cons u p pins to places in
    let none : one_if (not (same_place p.pin.place to)) ≡ 0 = ap (λ (b : Bool). one_if (not b)) same in
    omega arith

-- pins of distinct names that are in the same view at new places haven't moved
pub same-places : (u : ℕ) (pins : List TablePin) (places : List (Option ℕ)) → Apart pins
    → IsPermutation (map pin_of pins) (map pin_of (all_moved pins places)) → moved_count u pins places ≡ 0
same-places u pins places apart order =
    let from = map pin_of pins in
    let to = map pin_of (all_moved pins places) in
    stay-there u from (distinct-pins pins apart) pins places (all-in from pins (λ q c. c))
    (all-in from (all_moved pins places) (λ q c. Contains-permutation to from q (IsPermutation-sym from to order) c))
