-- The counts as a list of counts, among which a plan's moves are shared out.
use Rattle.std.proofs.Common.{◌≡◌, ℕ, ◌<◌, ◌≤◌, true, ◌&&◌, ◌||◌, ◌==◌, cond, Option, None, Some, List, [], ◌∷◌, map, All, AllPairs, nat_lt, refl, sym, ◌∙◌, arith}
use Rattle.std.specs.Ordering.{nat_cmp, ordering_then}
use Rattle.std.specs.Option.{option_cmp}
use Rattle.std.specs.List.{AllByRecursion}
use Rattle.std.specs.List.Sorted.{IsStrictlySortedBy}
use Rattle.std.specs.Map.{keys_of, values_of}
use Rattle.std.proofs.lemmas.Bool.{or_left, or_right, and_from}
use Rattle.std.proofs.lemmas.Bool.Decides.{nat_tests}
use Rattle.std.proofs.lemmas.Cmp.{ranked}
use Rattle.std.proofs.lemmas.List.Elements.{All-nil, All-cons, All-head, All-tail}
use Rattle.std.proofs.lemmas.List.Kept.{AllPairs-cons}
use Rattle.std.proofs.lemmas.Map.Keys.{sorted_head, sorted_tail}
use Rattle.pin_counts.specs.Counts.{AreRising}
use Rattle.std.specs.declared.cmp.Ordering.{Ordering}
use Rattle.std.specs.declared.cmp.Ordering.TheVariants.{Less, Equal, Greater}
use Rattle.lb_types_pins.specs.Kinds.{kind_before, place_before, same_place}
use Rattle.pin_set.specs.declared.pin.Pin.{Pin}
use Rattle.pin_set.specs.declared.pin_count.PinCount.{PinCount}
use Rattle.pin_moves.specs.Moves.{AreRisingCounts, counted_pins, pins_of as pins_with_want}
use Rattle.pin_set.specs.declared.table_pin.TablePin.{TablePin}
use Rattle.pin_table.specs.declared.table_kind.TableKind.{TableKind}
use Rattle.pin_table.specs.contracts.table_kind.TableKindOrd.TheImpl as kind_order
use Rattle.pin_table.specs.Kinds.{AreCounts, ArePinCounts}
use Rattle.pin_table.proofs.Arriving.{sum_by-map}

abbrev pub as_count : TableKind × ℕ → PinCount
as_count c = record { place = c.0.place; want = c.0.want; cost = c.0.cost; count = c.1 }

pub listed_exact : (pins : List TablePin) (entries : List (TableKind × ℕ)) → AreCounts pins entries → ArePinCounts pins (map as_count entries)
listed_exact pins entries are place want cost =
    sum_by-map (λ (c : PinCount). cond (same_place place c.place && (want == c.want && cost == c.cost)) c.count 0) as_count entries
    ∙ (are (record { place = place; want = want; cost = cost })
    ∙ sym (sum_by-map (λ (p : Pin). cond {A = ℕ} (same_place place p.place && (want == p.id.want && cost == p.cost)) 1 0) (λ (p : TablePin). p.pin) pins))

-- ---- they rise

nat_before : (x y : ℕ) → nat_cmp x y ≡ Less → nat_lt x y ≡ true
nat_before x y less = let below : x < y = ranked x y Less (sym less) in grind (arith, nat_tests)

nat_same : (x y : ℕ) → nat_cmp x y ≡ Equal → (x == y) ≡ true
nat_same x y equal = let same : x ≡ y = ranked x y Equal (sym equal) in grind (arith, nat_tests)

places_before : (p q : Option ℕ) → option_cmp nat_cmp p q ≡ Less → place_before p q ≡ true
places_before None None less = cc
places_before None (Some t) less = grind (arith, nat_tests)
places_before (Some s) None less = cc
places_before (Some s) (Some t) less = let below : s < t = ranked s t Less (sym less) in grind (arith, nat_tests)

places_same : (p q : Option ℕ) → option_cmp nat_cmp p q ≡ Equal → same_place p q ≡ true
places_same None None equal = refl
places_same None (Some t) equal = cc
places_same (Some s) None equal = cc
places_same (Some s) (Some t) equal = nat_same s t equal

costs_before : (a b : TableKind) (o : Ordering) → nat_cmp a.want b.want ≡ o → ordering_then o (nat_cmp a.cost b.cost) ≡ Less
    → (nat_lt a.want b.want || (a.want == b.want && nat_lt a.cost b.cost)) ≡ true
costs_before a b Less is less = or_left (nat_lt a.want b.want) (a.want == b.want && nat_lt a.cost b.cost) (nat_before a.want b.want is)
costs_before a b Equal is less =
    or_right (nat_lt a.want b.want) (a.want == b.want && nat_lt a.cost b.cost)
    (and_from (a.want == b.want) (nat_lt a.cost b.cost) (nat_same a.want b.want is) (nat_before a.cost b.cost less))
costs_before a b Greater is less = cc

kinds_before : (a b : TableKind) (o : Ordering) → option_cmp nat_cmp a.place b.place ≡ o
    → ordering_then o (ordering_then (nat_cmp a.want b.want) (nat_cmp a.cost b.cost)) ≡ Less
    → kind_before (pins_with_want a.place a.want a.cost) (pins_with_want b.place b.want b.cost) ≡ true
kinds_before a b Less is less =
    or_left (place_before a.place b.place) (same_place a.place b.place && (nat_lt a.want b.want || (a.want == b.want && nat_lt a.cost b.cost)))
    (places_before a.place b.place is)
kinds_before a b Equal is less =
    or_right (place_before a.place b.place) (same_place a.place b.place && (nat_lt a.want b.want || (a.want == b.want && nat_lt a.cost b.cost)))
    (and_from (same_place a.place b.place) (nat_lt a.want b.want || (a.want == b.want && nat_lt a.cost b.cost))
    (places_same a.place b.place is) (costs_before a b (nat_cmp a.want b.want) refl less))
kinds_before a b Greater is less = cc

before : (a b : TableKind) → (kind_order.ghosts).cmp a b ≡ Less → kind_before (pins_with_want a.place a.want a.cost) (pins_with_want b.place b.want b.cost) ≡ true
before a b less = kinds_before a b (option_cmp nat_cmp a.place b.place) refl less

behind : (a : TableKind × ℕ) (entries : List (TableKind × ℕ)) → AllByRecursion (λ k. (kind_order.ghosts).cmp a.0 k ≡ Less) (keys_of entries)
    → All (λ c. kind_before (counted_pins (as_count a)) (counted_pins c) ≡ true) (map as_count entries)
behind a [] rising = All-nil (λ (c : PinCount). kind_before (counted_pins (as_count a)) (counted_pins c) ≡ true)
behind a (e ∷ entries) rising =
    All-cons (λ (c : PinCount). kind_before (counted_pins (as_count a)) (counted_pins c) ≡ true) (as_count e) (map as_count entries)
    (before a.0 e.0 rising.0) (behind a entries rising.1)

rises : (entries : List (TableKind × ℕ)) → IsStrictlySortedBy (kind_order.ghosts).cmp (keys_of entries)
    → AllPairs (λ a b. kind_before (counted_pins a) (counted_pins b) ≡ true) (map as_count entries)
rises [] sorted = λ i j d below within. absurd (omega arith)
rises (e ∷ entries) sorted =
    AllPairs-cons (λ (a b : PinCount). kind_before (counted_pins a) (counted_pins b) ≡ true) (as_count e) (map as_count entries)
    (behind e entries (sorted_head _ e.0 (keys_of entries) sorted))
    (rises entries (sorted_tail _ e.0 (keys_of entries) sorted))

present : (entries : List (TableKind × ℕ)) → All (λ n. 0 < n) (values_of entries) → All (λ c. 1 ≤ c.count) (map as_count entries)
present [] some = All-nil (λ (c : PinCount). 1 ≤ c.count)
present (e ∷ entries) some =
    let here : 0 < e.1 = All-head (λ (n : ℕ). 0 < n) e.1 (values_of entries) some in
    All-cons (λ (c : PinCount). 1 ≤ c.count) (as_count e) (map as_count entries) (omega arith)
    (present entries (All-tail (λ (n : ℕ). 0 < n) e.1 (values_of entries) some))

pub listed_rising : (entries : List (TableKind × ℕ)) → AreRising (kind_order.ghosts).cmp entries → AreRisingCounts (map as_count entries)
listed_rising entries rising = record { rising = rises entries rising.rising; counted = present entries rising.present }
