-- A pass over pins, each of which is asked for once.
use Rattle.std.proofs.Common.{◌≡◌, ℕ, Bool, cond, Option, List, [], ◌∷◌, ◌++◌, map, refl, sym, ap, ◌∙◌, arith}
use Rattle.std.specs.List.{count_by, sum_by, zip}
use Rattle.std.proofs.lemmas.List.{length-map}
use Rattle.std.proofs.lemmas.List.Sorted.{IsPermutation-map, sum_by-IsPermutation}
use Rattle.std.proofs.lemmas.List.Sums.{sum_by-append, sum_by-cons}
use Rattle.std.proofs.lemmas.Slice.Zip.{firsts-zip}
use Rattle.lb_types_pins.specs.declared.kind.PinKind.{PinKind}
use Rattle.lb_types_pins.specs.Kinds.{same_kind}
use Rattle.lb_types_pins.proofs.Order.{same_kind-refl}
use Rattle.pin_set.specs.declared.pin.Pin.{Pin}
use Rattle.pin_set.specs.Rows.{is_move}
use Rattle.pin_set.specs.Views.{kind_of}
use Rattle.pin_groups.specs.Counts.{pins_with}
use Rattle.pin_moves.specs.Moves.{moved_with, pins_of}
use Rattle.pin_moves.specs.Passes.{NoneIsGiven, OneIsGiven, PassesJoin, OrderIsFree, OthersAreLeft, NextIsLeft, WholePassesAgree}
use Rattle.pin_moves.proofs.Handing.{nothing_left}

-- a sum over what becomes of each element
pub sum_by-map : {X Y : Type 0} (f : Y → ℕ) (g : X → Y) (xs : List X) → sum_by f (map g xs) ≡ sum_by (λ x. f (g x)) xs
sum_by-map f g [] = refl
sum_by-map f g (x ∷ xs) =
    omega (arith, sum_by-cons f (g x) (map g xs), sum_by-cons (λ y. f (g y)) x xs, sum_by-map f g xs)

-- 1 where the pin has this place, wants these servers and has this cost
abbrev one_with : Option ℕ → ℕ → ℕ → Pin → ℕ
one_with place want cost pin = cond (same_kind (pins_of place want cost) (pins_of pin.place pin.id.want pin.cost)) 1 0

one_with-itself : (pin : Pin) → one_with pin.place pin.id.want pin.cost pin ≡ 1
one_with-itself pin = ap (λ (b : Bool). cond {A = ℕ} b 1 0) (same_kind-refl (pins_of pin.place pin.id.want pin.cost))

-- 1 where a pin of this kind was given this place
abbrev one_to : ℕ → PinKind → Option ℕ → Pin × Option ℕ → ℕ
one_to usable kind to m = cond (is_move kind to (kind_of usable m.0, m.1)) 1 0

pub none_is_given : NoneIsGiven
none_is_given moves = record {
  left = λ place want cost. omega arith;
  sent = λ usable kind to. omega arith;
}

pub one_is_given : OneIsGiven
one_is_given pin to old new handed = record {
  left = λ place want cost. omega (arith, handed.left place want cost);
  sent = λ usable kind q. omega (arith, handed.sent usable kind q);
}

pub passes_join : PassesJoin
passes_join early late old between new first second = record {
  left = λ place want cost.
      let f = one_with place want cost in
      let given = λ (m : Pin × Option ℕ). m.0 in
      omega (
        arith,
        first.left place want cost,
        second.left place want cost,
        sum_by-map f given early,
        sum_by-map f given late,
        sum_by-map f given (early ++ late),
        sum_by-append (λ (m : Pin × Option ℕ). f m.0) early late,
      );
  sent = λ usable kind q.
      omega (arith, first.sent usable kind q, second.sent usable kind q, sum_by-append (one_to usable kind q) early late);
}

pub order_is_free : OrderIsFree
order_is_free pins others moves order are place want cost =
    are place want cost ∙ sym (sum_by-IsPermutation (one_with place want cost) pins others order)

pub others_are_left : OthersAreLeft
others_are_left given to_come old new are so_far place want cost =
    omega (
      arith,
      are place want cost,
      so_far.left place want cost,
      sum_by-append (one_with place want cost) (map (λ (m : Pin × Option ℕ). m.0) given) to_come,
    )

pub next_is_left : NextIsLeft
next_is_left pin to_come moves are =
    omega (
      arith,
      are pin.place pin.id.want pin.cost,
      sum_by-cons (one_with pin.place pin.id.want pin.cost) pin to_come,
      one_with-itself pin,
    )

-- the kinds beside the places are as many as the pins beside them
zip-kinds : (usable : ℕ) (kind : PinKind) (to : Option ℕ) (pins : List Pin) (places : List (Option ℕ))
    → count_by (is_move kind to) (zip (map (kind_of usable) pins) places) ≡ sum_by (one_to usable kind to) (zip pins places)
zip-kinds usable kind to [] places = refl
zip-kinds usable kind to (pin ∷ pins) [] = refl
zip-kinds usable kind to (pin ∷ pins) (place ∷ places) =
    omega (
      arith,
      sum_by-cons (λ (m : PinKind × Option ℕ). cond (is_move kind to m) 1 0) (kind_of usable pin, place) (zip (map (kind_of usable) pins) places),
      sum_by-cons (one_to usable kind to) (pin, place) (zip pins places),
      zip-kinds usable kind to pins places,
    )

pub whole_passes_agree : WholePassesAgree
whole_passes_agree usable rows pins places given old left moves send so_far whole order = (
  record {
    whole = whole ∙ sym (length-map pins (kind_of usable));
    counts = λ kind to.
        omega (
          arith,
          zip-kinds usable kind to pins places,
          sum_by-IsPermutation (one_to usable kind to) given (zip pins places) order,
          so_far.sent usable kind to,
          nothing_left left none usable kind to,
          send kind to,
        );
  },
  none,
)
  where
    same : (place : Option ℕ) (want cost : ℕ) → sum_by (one_with place want cost) (map (λ (m : Pin × Option ℕ). m.0) given) ≡ pins_with pins place want cost
    same place want cost =
        let f = one_with place want cost in
        let firsts = firsts-zip pins places whole in
        omega (
          arith,
          sum_by-IsPermutation f (map (λ (m : Pin × Option ℕ). m.0) given) (map (λ (m : Pin × Option ℕ). m.0) (zip pins places))
              (IsPermutation-map (λ (m : Pin × Option ℕ). m.0) given (zip pins places) order),
          ap (λ (ps : List Pin). sum_by f ps) firsts,
        )

    none : (place : Option ℕ) (want cost : ℕ) → moved_with left place want cost ≡ 0
    none place want cost = omega (arith, moves place want cost, so_far.left place want cost, same place want cost)
