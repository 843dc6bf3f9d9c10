-- Pins that are asked for one after another, in any order, go where the moves say.
use Rattle.std.proofs.Common.{◌≡◌, ◌≢◌, ℕ, ◌+◌, ◌≤◌, Bool, true, false, ◌&&◌, cond, Option, List, [], ◌∷◌, length, map, IsPermutation, refl, sym, ap, ap₂, ◌∙◌, arith}
use Rattle.std.specs.List.{All, sum_by, zip}
use Rattle.std.proofs.lemmas.List.{length-map}
use Rattle.std.proofs.lemmas.List.Elements.{All-nil, All-cons, All-head, All-tail}
use Rattle.std.proofs.lemmas.List.Sorted.{IsPermutation-sym, All-permutation, sum_by-IsPermutation}
use Rattle.std.proofs.lemmas.List.Sums.{sum_by-cons, sum_by-le-sum_by}
use Rattle.lb_types_pins.specs.declared.kind.PinKind.{PinKind}
use Rattle.lb_types_pins.specs.Kinds.{same_kind, same_place}
use Rattle.lb_types_pins.proofs.Order.{same_kind-refl}
use Rattle.pin_set.specs.declared.pin.Pin.{Pin}
use Rattle.pin_set.specs.declared.pin.PinId.{PinId}
use Rattle.pin_set.specs.Rows.{is_move}
use Rattle.pin_set.specs.Views.{kind_of as kind_in}
use Rattle.pin_moves.specs.declared.a_move.Move.{Move}
use Rattle.pin_moves.specs.Moves.{pins_of, moved_pins, moved_with, moved_to, going}
use Rattle.pin_moves.proofs.Handing.{nothing_left}
use Rattle.pin_recent.specs.Recent.{Asks, MayChange, given}
use Rattle.pin_set.specs.declared.table_pin.TablePin.{TablePin}
use Rattle.lb_desk_model.specs.Installs.{moved_to as at_place}
use Rattle.lb_desk_model.specs.Serves.{IsNew}
use Rattle.pin_table.specs.declared.held.Held.{Held}
use Rattle.pin_table.specs.Counted.{AreApart, listed}
use Rattle.pin_table.specs.Pins.{held_pin}
use Rattle.pin_table.specs.Placed.{AreMovesOf, ArePlaced, pins_in}
use Rattle.pin_table.specs.Placing.{IsToGo, Goes}

-- a pin that was asked for: its name, what was held of it, and what is
abbrev pub Asked : Type 0
Asked = (PinId × Held) × Held

-- the pin as it was
abbrev pub pin_was : Asked → Pin
pin_was a = record { id = a.0.0; place = a.0.1.place; cost = a.0.1.cost }

-- the pins as they were, and where they are
abbrev pub were : List Asked → List (PinId × Held)
were asked = map (λ a. a.0) asked

abbrev pub places_of : List Asked → List (Option ℕ)
places_of asked = map (λ a. a.1.place) asked

-- nothing else of the pin has changed
abbrev pub IsKept : Asked → Type 0
IsKept a = (a.1.cost ≡ a.0.1.cost) × (a.1.last_use ≡ a.0.1.last_use)

-- ---- there is always one left

-- 1 where the pin has this place, wants these servers and has this cost
abbrev one_with : Option ℕ → ℕ → ℕ → PinId × Held → ℕ
one_with place want cost p = cond (same_kind (pins_of place want cost) (pins_of p.1.place p.0.want p.1.cost)) 1 0

one_with-itself : (p : PinId × Held) → one_with p.1.place p.0.want p.1.cost p ≡ 1
one_with-itself p = ap (λ (b : Bool). cond {A = ℕ} b 1 0) (same_kind-refl (pins_of p.1.place p.0.want p.1.cost))

may_go_on : (moves : List Move) (pairs : List (PinId × Held)) → ((place : Option ℕ) (want cost : ℕ) → moved_with moves place want cost ≡ sum_by (one_with place want cost) pairs)
    → MayChange IsToGo Goes moves pairs
may_go_on moves [] are = tt
may_go_on moves (p ∷ pairs) are = (
  omega (arith, are p.1.place p.0.want p.1.cost, sum_by-cons (one_with p.1.place p.0.want p.1.cost) p pairs, one_with-itself p),
  λ placed next goes. may_go_on next pairs (λ place want cost.
      omega (arith, are place want cost, goes.handed.left place want cost, sum_by-cons (one_with place want cost) p pairs)),
)

-- a sum over the pins of pairs
pub sum_by-listed : (f : Pin → ℕ) (pairs : List (PinId × Held))
    → sum_by f (map (λ p. p.pin) (listed pairs)) ≡ sum_by (λ (p : PinId × Held). f (record { id = p.0; place = p.1.place; cost = p.1.cost })) pairs
sum_by-listed f [] = refl
sum_by-listed f (p ∷ pairs) =
    let pin : Pin = record { id = p.0; place = p.1.place; cost = p.1.cost } in
    omega (
      arith,
      sum_by-cons f pin (map (λ (q : TablePin). q.pin) (listed pairs)),
      sum_by-cons (λ (q : PinId × Held). f (record { id = q.0; place = q.1.place; cost = q.1.cost })) p pairs,
      sum_by-listed f pairs,
    )

-- the pins may be asked for in any order
pub may_go : (pairs order : List (PinId × Held)) (moves : List Move) → AreMovesOf (listed pairs) moves → IsPermutation pairs order → MayChange IsToGo Goes moves order
may_go pairs order moves are permuted = may_go_on moves order (λ place want cost.
    omega (
      arith,
      are place want cost,
      sum_by-listed (λ (pin : Pin). cond (same_kind (pins_of place want cost) (pins_in pin)) 1 0) pairs,
      sum_by-IsPermutation (one_with place want cost) pairs order permuted,
    ))

-- ---- what was handed out

-- what each pin lowers by its weight, all lower by their weights
asks_sum : (left : List Move → ℕ) (weight : Asked → ℕ) → ((a : Asked) (old new : List Move) → Goes old a.0.0 a.0.1 a.1 new → left new + weight a ≡ left old)
    → (first : List Move) (asked : List Asked) (last : List Move) → Asks Goes first asked last → left last + sum_by weight asked ≡ left first
asks_sum left weight each first [] last asks = omega (arith, ap left asks)
asks_sum left weight each first (a ∷ asked) last asks =
    omega (arith, each a first asks.0 asks.1, asks_sum left weight each asks.0 asked last asks.2, sum_by-cons weight a asked)

asks_kept : (first : List Move) (asked : List Asked) (last : List Move) → Asks Goes first asked last → All IsKept asked
asks_kept first [] last asks = All-nil IsKept
asks_kept first (a ∷ asked) last asks =
    All-cons IsKept a asked (asks.1.same_cost, asks.1.same_use) (asks_kept asks.0 asked last asks.2)

fewer_of : (b c : Bool) (n : ℕ) → cond (b && c) n 0 ≤ cond b n 0
fewer_of true true n = omega arith
fewer_of true false n = omega arith
fewer_of false c n = omega arith

-- where no pins are left none are to go anywhere
none_going : (moves : List Move) (place : Option ℕ) (want cost : ℕ) (to : Option ℕ) → moved_with moves place want cost ≡ 0 → going moves place want cost to ≡ 0
none_going moves place want cost to none =
    let pins = pins_of place want cost in
    let fewer = sum_by-le-sum_by (λ (m : Move). cond (is_move pins to (moved_pins m, m.to)) m.count 0) (λ (m : Move). cond (same_kind pins (moved_pins m)) m.count 0) moves
    (λ m. fewer_of (same_kind pins (moved_pins m)) (same_place to m.to) m.count) in
    omega arith

sum_by-were : (f : PinId × Held → ℕ) (asked : List Asked) → sum_by f (were asked) ≡ sum_by (λ (a : Asked). f a.0) asked
sum_by-were f [] = refl
sum_by-were f (a ∷ asked) = omega (arith, sum_by-cons f a.0 (were asked), sum_by-cons (λ (b : Asked). f b.0) a asked, sum_by-were f asked)

-- a sum over the pins' kinds beside the places where they went
zip-were : (f : PinKind × Option ℕ → ℕ) (kind : Pin → PinKind) (asked : List Asked)
    → sum_by f (zip (map kind (map (λ p. p.pin) (listed (were asked)))) (places_of asked)) ≡ sum_by (λ (a : Asked). f (kind (pin_was a), a.1.place)) asked
zip-were f kind [] = refl
zip-were f kind (a ∷ asked) =
    omega (
      arith,
      sum_by-cons f (kind (pin_was a), a.1.place) (zip (map kind (map (λ (p : TablePin). p.pin) (listed (were asked)))) (places_of asked)),
      sum_by-cons (λ (b : Asked). f (kind (pin_was b), b.1.place)) a asked,
      zip-were f kind asked,
    )

-- the pin of this name at this place, with this cost and last use
abbrev pin_with : PinId → Option ℕ → ℕ → ℕ → TablePin
pin_with name place cost used = record { pin = record { id = name; place = place; cost = cost }; last_use = used }

now_is : (asked : List Asked) → All IsKept asked
    → listed (map given asked) ≡ map (λ m. at_place m.0 m.1) (zip (listed (were asked)) (places_of asked))
now_is [] kept = refl
now_is (a ∷ asked) kept =
    let here = All-head IsKept a asked kept in
    ap₂ (λ (p : TablePin) l. p ∷ l)
    (ap₂ (pin_with a.0.0 a.1.place) here.0 here.1)
    (now_is asked (All-tail IsKept a asked kept))

module _ (moves : List Move) (last : List Move) (changed asked : List Asked) (are : AreMovesOf (listed (were changed)) moves)
    (each : IsPermutation changed asked) (asks : Asks Goes moves asked last) where
  none_left : (place : Option ℕ) (want cost : ℕ) → moved_with last place want cost ≡ 0
  none_left place want cost =
      let one = λ (a : Asked). one_with place want cost a.0 in
      omega (
        arith,
        are place want cost,
        sum_by-listed (λ (pin : Pin). cond (same_kind (pins_of place want cost) (pins_in pin)) 1 0) (were changed),
        sum_by-were (one_with place want cost) changed,
        sum_by-IsPermutation one changed asked each,
        asks_sum (λ ms. moved_with ms place want cost) one (λ a old new goes. goes.handed.left place want cost) moves asked last asks,
      )

  -- of each place, wanted servers and cost as many went to each place as the moves say
  pub went_each : (place : Option ℕ) (want cost : ℕ) (to : Option ℕ)
      → sum_by (λ (a : Asked). cond (is_move (pins_of place want cost) to (pins_in (pin_was a), a.1.place)) 1 0) changed ≡ going moves place want cost to
  went_each place want cost to =
      let one = λ (a : Asked). cond {A = ℕ} (is_move (pins_of place want cost) to (pins_in (pin_was a), a.1.place)) 1 0 in
      omega (
        arith,
        none_going last place want cost to (none_left place want cost),
        sum_by-IsPermutation one changed asked each,
        asks_sum (λ ms. going ms place want cost to) one (λ a old new goes. goes.handed.going place want cost to) moves asked last asks,
      )

  went_kinds : (usable : ℕ) (kind : PinKind) (to : Option ℕ)
      → sum_by (λ (a : Asked). cond (is_move kind to (kind_in usable (pin_was a), a.1.place)) 1 0) changed ≡ moved_to usable moves kind to
  went_kinds usable kind to =
      let one = λ (a : Asked). cond {A = ℕ} (is_move kind to (kind_in usable (pin_was a), a.1.place)) 1 0 in
      omega (
        arith,
        nothing_left last none_left usable kind to,
        sum_by-IsPermutation one changed asked each,
        asks_sum (λ ms. moved_to usable ms kind to) one (λ a old new goes. goes.handed.sent usable kind to) moves asked last asks,
      )

  pub all_kept : All IsKept changed
  all_kept = All-permutation IsKept asked changed (IsPermutation-sym changed asked each) (asks_kept moves asked last asks)

  pub are_placed : ArePlaced moves (listed (were changed)) (listed (map given changed))
  are_placed = record {
    places = places_of changed;
    whole = length-map changed (λ (a : Asked). a.1.place) ∙ sym (length-map (were changed) (λ (p : PinId × Held). held_pin p.0 p.1) ∙ length-map changed (λ (a : Asked). a.0));
    new_is = now_is changed all_kept;
    each = λ place want cost to.
        zip-were (λ (m : PinKind × Option ℕ). cond (is_move (pins_of place want cost) to m) 1 0) pins_in changed ∙ went_each place want cost to;
    sent = λ usable kind to.
        zip-were (λ (m : PinKind × Option ℕ). cond (is_move kind to m) 1 0) (kind_in usable) changed ∙ went_kinds usable kind to;
  }

-- there are as many pins as before
length-places : (old : List TablePin) (places : List (Option ℕ)) → length places ≡ length old → length (map (λ m. at_place m.0 m.1) (zip old places)) ≡ length old
length-places [] places whole = refl
length-places (p ∷ old) [] whole = absurd (omega arith)
length-places (p ∷ old) (place ∷ places) whole = let rest = length-places old places (omega arith) in omega arith

pub length-placed : (moves : List Move) (old new : List TablePin) → ArePlaced moves old new → length new ≡ length old
length-placed moves old new placed = ap length placed.new_is ∙ length-places old placed.places placed.whole

-- ---- names

new_still : (name : PinId) (asked : List Asked) → IsNew name (listed (were asked)) → IsNew name (listed (map given asked))
new_still name [] new = All-nil (λ (p : TablePin). p.pin.id ≢ name)
new_still name (a ∷ asked) new =
    All-cons (λ (p : TablePin). p.pin.id ≢ name) (held_pin a.0.0 a.1) (listed (map given asked))
    (All-head (λ (p : TablePin). p.pin.id ≢ name) (held_pin a.0.0 a.0.1) (listed (were asked)) new)
    (new_still name asked (All-tail (λ (p : TablePin). p.pin.id ≢ name) (held_pin a.0.0 a.0.1) (listed (were asked)) new))

pub apart_still : (asked : List Asked) → AreApart (listed (were asked)) → AreApart (listed (map given asked))
apart_still [] apart = tt
apart_still (a ∷ asked) apart = (new_still a.0.0 asked apart.0, apart_still asked apart.1)
