-- How many pins the moves make of each kind.
use Rattle.std.proofs.Common.{◌≡◌, ℕ, ◌+◌, ◌*◌, ◌<◌, ◌≤◌, ◌^◌, Bool, true, false, cond, Option, List, [], ◌∷◌, length, map, get_or, take, refl, sym, ap, ap₂, ◌∙◌, subst, arith}
use Rattle.std.specs.List.{All, sum_by}
use Rattle.std.proofs.lemmas.Bool.{and_parts, and_from}
use Rattle.std.proofs.lemmas.List.{length-map}
use Rattle.std.proofs.lemmas.List.Elements.{All-head, All-tail}
use Rattle.std.proofs.lemmas.List.Sums.{sum_by-cons, sum_by_more, sum_by-take-drop, sum_by-le-sum_by}
use Rattle.lb_types_pins.specs.declared.kind.PinKind.{PinKind}
use Rattle.lb_types_pins.specs.Kinds.{same_kind as one_kind, same_place}
use Rattle.lb_types_pins.proofs.Order.{same_kind-true, same_kind-refl, same_place-true, same_place-refl}
use Rattle.cert_check_law.proofs.Weights.{IsEquality, sum_by-same, sum_by-weights}
use Rattle.cert_check_law.proofs.Agreeing.{same_kind_is, length-ones}
use Rattle.pin_set.specs.declared.pin.PinId.{PinId}
use Rattle.pin_set.specs.Rows.{is_move}
use Rattle.pin_counts.specs.Counts.{HasMore}
use Rattle.pin_moves.specs.declared.a_move.Move.{Move}
use Rattle.pin_moves.specs.Moves.{pins_of as pins_with_want, moved_pins, going}
use Rattle.pin_recent.specs.Recent.{IsChanged, given}
use Rattle.pin_set.specs.declared.table_pin.TablePin.{TablePin}
use Rattle.pin_table.specs.declared.table_kind.TableKind.{TableKind}
use Rattle.pin_table.specs.declared.held.Held.{Held}
use Rattle.pin_table.specs.Counted.{AreApart, AreCounted, listed}
use Rattle.pin_table.specs.Kinds.{kind_of, same_kind, pins_of, counted_of}
use Rattle.pin_table.specs.Pins.{held_pin}
use Rattle.pin_table.specs.Placed.{AreMovesOf, ArePlaced, pins_in}
use Rattle.pin_table.specs.Placing.{Goes, kind_after, arriving}
use Rattle.pin_table.proofs.Counting.{kind-refl}
use Rattle.pin_table.proofs.Placed.{Asked, IsKept, pin_was, were, went_each, all_kept, are_placed, apart_still}

-- pins of one place, wanted servers and cost, and where they go
abbrev Going : Type 0
Going = PinKind × Option ℕ

abbrev same_going : Going → Going → Bool
same_going x y = is_move x.0 x.1 y

same_going-true : (x y : Going) → same_going x y ≡ true → x ≡ y
same_going-true x y same =
    let parts = and_parts (one_kind x.0 y.0) (same_place x.1 y.1) same in
    ap₂ (λ (k : PinKind) (to : Option ℕ). (k, to)) (same_kind-true x.0 y.0 parts.0) (same_place-true x.1 y.1 parts.1)

same_going_is : IsEquality same_going
same_going_is = record {
  reflexive = λ x. and_from (one_kind x.0 x.0) (same_place x.1 x.1) (same_kind-refl x.0) (same_place-refl x.1);
  truth = same_going-true;
}

-- the kind of such a pin once it went there
abbrev kind_there : Going → TableKind
kind_there x = record { place = x.1; want = x.0.permitted; cost = x.0.cost }

abbrev went : Asked → Going
went a = (pins_in (pin_was a), a.1.place)

pub sum_by-map : {X Y : Type 0} (f : Y → ℕ) (g : X → Y) (xs : List X) → sum_by f (map g xs) ≡ sum_by (λ x. f (g x)) xs
sum_by-map f g [] = refl
sum_by-map f g (x ∷ xs) = omega (arith, sum_by-cons f (g x) (map g xs), sum_by-cons (λ y. f (g y)) x xs, sum_by-map f g xs)

times_test : (b : Bool) (n : ℕ) → n * cond b 1 0 ≡ cond b n 0
times_test true n = omega arith
times_test false n = omega arith

kind_with : Option ℕ → ℕ → ℕ → TableKind
kind_with place want cost = record { place = place; want = want; cost = cost }

-- the pins as they are now, by where they went
now_by_kind : (kind : TableKind) (asked : List Asked) → All IsKept asked
    → pins_of (listed (map given asked)) kind ≡ sum_by (λ (a : Asked). cond (same_kind kind (kind_there (went a))) 1 0) asked
unfolding kind_with
now_by_kind kind [] kept = refl
now_by_kind kind (a ∷ asked) kept =
    let cost = (All-head IsKept a asked kept).0 in
    let here : cond {A = ℕ} (same_kind kind (kind_of (held_pin a.0.0 a.1))) 1 0 ≡ cond {A = ℕ} (same_kind kind (kind_there (went a))) 1 0 =
    ap (λ (n : ℕ). cond {A = ℕ} (same_kind kind (kind_with a.1.place a.0.0.want n)) 1 0) cost in
    omega (
      arith,
      sum_by-cons (λ (p : TablePin). cond (same_kind kind (kind_of p)) 1 0) (held_pin a.0.0 a.1) (listed (map given asked)),
      sum_by-cons (λ (b : Asked). cond (same_kind kind (kind_there (went b))) 1 0) a asked,
      now_by_kind kind asked (All-tail IsKept a asked kept),
    )

-- where of each place, wanted servers and cost as many went to each place as the moves say, there are as many of each kind
pub arrived : (moves : List Move) (changed : List Asked) → All IsKept changed
    → ((place : Option ℕ) (want cost : ℕ) (to : Option ℕ)
    → sum_by (λ (a : Asked). cond (is_move (pins_with_want place want cost) to (pins_in (pin_was a), a.1.place)) 1 0) changed ≡ going moves place want cost to)
    → (kind : TableKind) → pins_of (listed (map given changed)) kind ≡ arriving moves kind
arrived moves changed kept each kind =
    let value : Going → ℕ = λ x. cond (same_kind kind (kind_there x)) 1 0 in
    now_by_kind kind changed kept
    ∙ (sym (sum_by-map value went changed)
    ∙ (sum_by-weights same_going same_going_is (λ (m : Move). (moved_pins m, m.to)) (λ (m : Move). m.count) moves (map went changed) value
    (λ x. sum_by-map (λ (y : Going). cond (same_going x y) 1 0) went changed ∙ each x.0.place x.0.permitted x.0.cost x.1)
    ∙ sum_by-same (λ (m : Move). m.count * value (moved_pins m, m.to)) (λ (m : Move). cond (same_kind kind (kind_after m)) m.count 0) moves
    (λ m. times_test (same_kind kind (kind_after m)) m.count)))

-- ---- the counts fit

-- the moves are of as many pins as there are
pub moved_all : (pins : List TablePin) (moves : List Move) → AreMovesOf pins moves → sum_by (λ m. m.count) moves ≡ length pins
moved_all pins moves are =
    let as_pins = map (λ (p : TablePin). p.pin) pins in
    let kinds = map pins_in as_pins in
    let whole = sum_by-weights one_kind same_kind_is moved_pins (λ (m : Move). m.count) moves kinds (λ (k : PinKind). 1)
    (λ x. sum_by-map (λ (k : PinKind). cond (one_kind x k) 1 0) pins_in as_pins ∙ sym (are x.place x.permitted x.cost)) in
    omega (
      arith,
      length-ones kinds,
      length-map as_pins pins_in,
      length-map pins (λ (p : TablePin). p.pin),
      sum_by-same (λ (m : Move). m.count * 1) (λ (m : Move). m.count) moves (λ m. omega arith),
    )

one_of : (b : Bool) (n : ℕ) → cond b n 0 ≤ n
one_of true n = omega arith
one_of false n = omega arith

-- the next of the moves
pub arriving-next : (moves : List Move) (i : ℕ) (m : Move) (kind : TableKind) → i < length moves → m ≡ get_or moves i m
    → arriving (take (i + 1) moves) kind ≡ arriving (take i moves) kind + cond (same_kind kind (kind_after m)) m.count 0
arriving-next moves i m kind within is =
    let f : Move → ℕ = λ n. cond (same_kind kind (kind_after n)) n.count 0 in
    let here = ap f is in
    omega (arith, sum_by_more f moves i m within)

-- which the counts so far have room for
pub arriving_fits : (moves : List Move) (i : ℕ) (m : Move) (counted : ℕ) → i < length moves → m ≡ get_or moves i m
    → sum_by (λ m. m.count) moves < 2 ^ 32 → counted ≡ arriving (take i moves) (kind_after m) → counted + m.count < 2 ^ 64
arriving_fits moves i m counted within is few so_far =
    let kind = kind_after m in
    let f : Move → ℕ = λ n. cond (same_kind kind (kind_after n)) n.count 0 in
    let own : cond (same_kind kind kind) m.count 0 ≡ m.count = ap (λ b. cond b m.count 0) (kind-refl kind) in
    omega (
      arith,
      arriving-next moves i m kind within is,
      sum_by-take-drop f moves (i + 1),
      sum_by-le-sum_by f (λ (n : Move). n.count) moves (λ n. one_of (same_kind kind (kind_after n)) n.count),
    )

-- one move more is counted
pub counted_next : (moves : List Move) (i : ℕ) (m : Move) (counts more : List (TableKind × ℕ)) → i < length moves → m ≡ get_or moves i m
    → ((kind : TableKind) → counted_of counts kind ≡ arriving (take i moves) kind) → HasMore same_kind counts (kind_after m) m.count more
    → (kind : TableKind) → counted_of more kind ≡ arriving (take (i + 1) moves) kind
counted_next moves i m counts more within is so_far has kind =
    omega (arith, so_far kind, has kind, arriving-next moves i m kind within is)

-- ---- a whole pass

module _ (moves last : List Move) (old new : List (PinId × Held)) (changed : IsChanged Goes moves last old new) where
  still_moves : AreMovesOf (listed old) moves → AreMovesOf (listed (were changed.changed)) moves
  still_moves are = subst (λ l. AreMovesOf (listed l) moves) (sym changed.was) are

  pub all_placed : AreMovesOf (listed old) moves → ArePlaced moves (listed old) (listed new)
  all_placed are =
      subst (λ l. ArePlaced moves (listed l) (listed new)) changed.was
      (subst (λ l. ArePlaced moves (listed (were changed.changed)) (listed l)) changed.is
      (are_placed moves last changed.changed changed.asked (still_moves are) changed.each changed.asks))

  -- the pins have names of their own as before, and the counts are those of the moves
  pub all_counted : (counts : List (TableKind × ℕ)) → AreMovesOf (listed old) moves → AreApart (listed old)
      → ((kind : TableKind) → counted_of counts kind ≡ arriving moves kind) → AreCounted (listed new) counts
  all_counted counts are apart arrive =
      let pins = changed.changed in
      let arrives = arrived moves pins (all_kept moves last pins changed.asked (still_moves are) changed.each changed.asks)
      (went_each moves last pins changed.asked (still_moves are) changed.each changed.asks) in
      subst (λ l. AreCounted (listed l) counts) changed.is record {
        apart = apart_still pins (subst (λ l. AreApart (listed l)) (sym changed.was) apart);
        counted = λ kind. arrive kind ∙ sym (arrives kind);
      }
