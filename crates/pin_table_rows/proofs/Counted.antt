-- Rows have as many pins of each kind as counts, where they have as many of the kinds of both.
use Rattle.std.proofs.Common.{◌≡◌, ◌⊎◌, ℕ, suc, ◌+◌, ◌<◌, Bool, true, false, cond, Option, List, [], ◌∷◌, length, get_or, refl, sym, subst, ◌∙◌, inl, inr, arith}
use Rattle.std.specs.List.{sum_by}
use Rattle.std.proofs.lemmas.Bool.{cases_eq}
use Rattle.std.proofs.lemmas.List.Elements.{at_read}
use Rattle.std.proofs.lemmas.List.Sums.{sum_by-cons}
use Rattle.lb_types_pins.specs.declared.kind.PinKind.{PinKind}
use Rattle.lb_types_pins.specs.declared.kind.Row.{Row}
use Rattle.lb_types_pins.specs.Kinds.{same_kind}
use Rattle.lb_types_pins.proofs.Order.{same_kind-true}
use Rattle.dual_cert_plan.specs.Plans.{groups_of, pins_in_rows}
use Rattle.dual_cert_plan.proofs.OwnSheet.{pins-groups_of}
use Rattle.pin_set.specs.declared.pin_count.PinCount.{PinCount}
use Rattle.pin_set.specs.declared.pin.Pin.{Pin}
use Rattle.pin_groups.specs.Counts.{AreGroupsOfCounts, counted_kind, counted_with, pins_with}
use Rattle.pin_moves.specs.Moves.{counted_pins, pins_of}

abbrev of_kind : {X : Type 0} → (X → PinKind) → (X → ℕ) → PinKind → X → ℕ
of_kind key count kind x = cond (same_kind kind (key x)) (count x) 0

-- one of them is of the kind
abbrev HasKind : {X : Type 0} → (X → PinKind) → PinKind → List X → Type 0
HasKind {X} key kind xs = (k : ℕ) × (k < length xs) × ((d : X) → key (get_or xs k d) ≡ kind)

none_or_one : {X : Type 0} (key : X → PinKind) (count : X → ℕ) (kind : PinKind) (xs : List X)
    → (sum_by (of_kind key count kind) xs ≡ 0) ⊎ HasKind key kind xs
none_or_one key count kind [] = inl refl
none_or_one {X} key count kind (x ∷ xs) = here (same_kind kind (key x)) refl (none_or_one key count kind xs)
  where
    here : (b : Bool) → same_kind kind (key x) ≡ b → (sum_by (of_kind key count kind) xs ≡ 0) ⊎ HasKind key kind xs
        → (sum_by (of_kind key count kind) (x ∷ xs) ≡ 0) ⊎ HasKind key kind (x ∷ xs)
    here true same rest = inr (0, omega arith, λ d. sym (same_kind-true kind (key x) same))
    here false other (inl none) =
        let nothing : of_kind key count kind x ≡ 0 = rw other refl in
        inl (omega (arith, sum_by-cons (of_kind key count kind) x xs))
    here false other (inr one) = inr (suc one.0, omega (arith, one.1), one.2)

abbrev pub Counted : ℕ → List Row → List PinCount → PinKind → Type 0
Counted usable rows counts kind = sum_by (λ (c : PinCount). cond (same_kind kind (counted_kind usable c)) c.count 0) counts ≡ pins_in_rows kind rows

pub all_counted : (usable : ℕ) (rows : List Row) (counts : List PinCount)
    → ((k : ℕ) (d : Row) → k < length rows → Counted usable rows counts (get_or rows k d).kind)
    → ((k : ℕ) (d : PinCount) → k < length counts → Counted usable rows counts (counted_kind usable (get_or counts k d)))
    → AreGroupsOfCounts usable (groups_of rows) counts
all_counted usable rows counts in_rows in_counts kind = counted ∙ sym (pins-groups_of kind rows)
  where
    some_row : Row
    some_row = record { kind = kind; new_place = kind.place; count = 0 }

    some_count : PinCount
    some_count = record { place = kind.place; want = 0; cost = 0; count = 0 }

    counted : Counted usable rows counts kind
    counted = elim (none_or_one (λ (r : Row). r.kind) (λ (r : Row). r.count) kind rows) [
      | inr row ↦ subst (Counted usable rows counts) (row.2 some_row) (in_rows row.0 some_row row.1)
      | inl no_row ↦ elim (none_or_one (counted_kind usable) (λ (c : PinCount). c.count) kind counts) [
        | inr count ↦ subst (Counted usable rows counts) (count.2 some_count) (in_counts count.0 some_count count.1)
        | inl no_count ↦ no_count ∙ sym no_row
      ]
    ]

-- ---- pins

some_of : {X : Type 0} (xs : List X) (k : ℕ) → k < length xs → X
some_of [] k below = absurd (omega arith)
some_of (x ∷ xs) k below = x

abbrev pub PinsCounted : List Pin → List PinCount → Option ℕ → ℕ → ℕ → Type 0
PinsCounted pins counts place want cost = pins_with pins place want cost ≡ counted_with counts place want cost

pub all_pins_counted : (pins : List Pin) (counts : List PinCount)
    → ((k : ℕ) (d : Pin) → k < length pins → PinsCounted pins counts (get_or pins k d).place (get_or pins k d).id.want (get_or pins k d).cost)
    → ((k : ℕ) (d : PinCount) → k < length counts → PinsCounted pins counts (get_or counts k d).place (get_or counts k d).want (get_or counts k d).cost)
    → (place : Option ℕ) (want cost : ℕ) → PinsCounted pins counts place want cost
all_pins_counted pins counts in_pins in_counts place want cost =
    elim (none_or_one wanted (λ (p : Pin). 1) kind pins) [
      | inr pin ↦
          let some_pin = some_of pins pin.0 pin.1 in
          subst Counts (pin.2 some_pin) (in_pins pin.0 some_pin pin.1)
      | inl no_pin ↦ elim (none_or_one counted_pins (λ (c : PinCount). c.count) kind counts) [
        | inr count ↦ subst Counts (count.2 some_count) (in_counts count.0 some_count count.1)
        | inl no_count ↦ no_pin ∙ sym no_count
      ]
    ]
  where
    kind : PinKind
    kind = pins_of place want cost

    Counts : PinKind → Type 0
    Counts k = PinsCounted pins counts k.place k.permitted k.cost

    wanted : Pin → PinKind
    wanted p = pins_of p.place p.id.want p.cost

    some_count : PinCount
    some_count = record { place = place; want = want; cost = cost; count = 0 }

-- what holds of the first ones and of the next holds of one more
pub one_more : {X : Type 0} (P : X → Type 0) (xs : List X) (i : ℕ) (x : X) → i < length xs → x ≡ get_or xs i x → P x
    → ((k : ℕ) (d : X) → k < i → P (get_or xs k d)) → (k : ℕ) (d : X) → k < i + 1 → P (get_or xs k d)
one_more P xs i x within is here before k d below =
    elim (cases_eq k i) [
      | inl same ↦ rw same (at_read xs P i x within is here d)
      | inr other ↦ before k d (omega arith)
    ]
