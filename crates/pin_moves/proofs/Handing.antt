-- Moves are handed out pin by pin: what is left of them stays in order.
use Rattle.std.proofs.Common.{◌≡◌, ◌⊎◌, ℕ, ◌+◌, ◌-◌, ◌<◌, ◌≤◌, Bool, true, false, ◌&&◌, cond, Option, List, [], ◌∷◌, length, get_or, set, refl, sym, ap, ◌∙◌, inl, inr, arith}
use Rattle.std.specs.List.{sum_by, All, AllPairs}
use Rattle.std.proofs.lemmas.Bool.{and_parts, or_cases}
use Rattle.std.proofs.lemmas.List.{get_or_default}
use Rattle.std.proofs.lemmas.List.Sums.{sum_by-cons, sum_by-set}
use Rattle.lb_types_pins.specs.declared.kind.PinKind.{PinKind}
use Rattle.lb_types_pins.specs.Kinds.{kind_before, same_kind, place_before}
use Rattle.lb_types_pins.proofs.Order.{same_kind-true, same_kind-refl}
use Rattle.pin_set.specs.Rows.{is_move}
use Rattle.pin_moves.specs.declared.a_move.Move.{Move}
use Rattle.pin_moves.specs.Handed.{AreHandedInOrder}
use Rattle.pin_moves.specs.Moves.{moved_pins, moved_kind, move_before, moved_with, NothingIsLeft}
use Rattle.pin_moves.proofs.Taking.{AreOrdered, IsFirstLeft, both, found, left_of, pairs_set, partitioned, passed, refuted}

pub order_start : (moves : List Move) → AllPairs (λ a b. move_before a b ≡ true) moves → All (λ m. 1 ≤ m.count) moves
    → AreHandedInOrder moves
order_start moves rising counted = record { rising = rising; used = λ i j d below inside same some. counted j d inside }

pub ordered_moves : (left : List Move) → AreHandedInOrder left → AreOrdered moved_pins (λ (m : Move). m.count) left
ordered_moves left order = record { rising = λ i j d below inside. earlier (get_or left i d) (get_or left j d) (order.rising i j d below inside); used = order.used }
  where
    earlier : (a b : Move) → move_before a b ≡ true → (kind_before (moved_pins a) (moved_pins b) ≡ true) ⊎ (moved_pins a ≡ moved_pins b)
    earlier a b before =
        elim (or_cases (kind_before (moved_pins a) (moved_pins b)) (same_kind (moved_pins a) (moved_pins b) && place_before a.to b.to) before) [
          | inl pins ↦ inl pins
          | inr same ↦ inr (same_kind-true (moved_pins a) (moved_pins b) (and_parts (same_kind (moved_pins a) (moved_pins b)) (place_before a.to b.to) same).0)
        ]

abbrev pub passed_by : PinKind → Move → Bool
passed_by pins m = passed moved_pins (λ (n : Move). n.count) pins m

abbrev pub IsFirst : List Move → PinKind → ℕ → Type 0
IsFirst left pins at = IsFirstLeft moved_pins (λ (m : Move). m.count) left pins at

-- where the first move isn't passed, it is the first with some left
pub first_of_all : (left : List Move) (pins : PinKind) (at : ℕ) (m : Move) → AreHandedInOrder left → at ≡ 0 → at < length left → m ≡ get_or left at m
    → passed_by pins m ≡ false → 1 ≤ sum_by (left_of moved_pins (λ (m : Move). m.count) pins) left → IsFirst left pins at
first_of_all left pins at m order zero within is here some =
    let ordered = ordered_moves left order in
    let parted = partitioned moved_pins (λ (m : Move). m.count) left pins ordered in
    let at_first : (d : Move) → passed_by pins (get_or left at d) ≡ false =
    λ d. ap (passed_by pins) (sym (is ∙ get_or_default left at m d within)) ∙ here in
    found moved_pins (λ (m : Move). m.count) left pins at ordered (λ k d low. absurd (omega (arith, low, zero)))
    (λ k d from below. refuted (passed_by pins (get_or left k d)) (λ past. both (passed_by pins (get_or left at d)) (at_first d) (parted at k d from below past)))
    some

-- where a move isn't passed and the one before it is, it is the first with some left
pub first_behind : (left : List Move) (pins : PinKind) (at : ℕ) (m n : Move) → AreHandedInOrder left → at < length left → 1 ≤ at
    → m ≡ get_or left at m → passed_by pins m ≡ false → n ≡ get_or left (at - 1) n → passed_by pins n ≡ true
    → 1 ≤ sum_by (left_of moved_pins (λ (m : Move). m.count) pins) left → IsFirst left pins at
first_behind left pins at m n order within high is here before past some =
    let ordered = ordered_moves left order in
    let parted = partitioned moved_pins (λ (m : Move). m.count) left pins ordered in
    let at_m : (d : Move) → passed_by pins (get_or left at d) ≡ false =
    λ d. ap (passed_by pins) (sym (is ∙ get_or_default left at m d within)) ∙ here in
    let at_n : (d : Move) → passed_by pins (get_or left (at - 1) d) ≡ true =
    λ d. ap (passed_by pins) (sym (before ∙ get_or_default left (at - 1) n d (omega (arith, within)))) ∙ past in
    found moved_pins (λ (m : Move). m.count) left pins at ordered
    (λ k d low. parted k (at - 1) d (omega (arith, low)) (omega (arith, within, high)) (at_n d))
    (λ k d from below. refuted (passed_by pins (get_or left k d)) (λ is_past. both (passed_by pins (get_or left at d)) (at_m d) (parted at k d from below is_past)))
    some

-- the move with one pin fewer
abbrev pub less : Move → Move
less m = record { place = m.place; want = m.want; cost = m.cost; to = m.to; count = m.count - 1 }

pub order_less : (left : List Move) (pins : PinKind) (at : ℕ) (m : Move) → AreHandedInOrder left
    → IsFirstLeft moved_pins (λ (n : Move). n.count) left pins at → m ≡ get_or left at m → AreHandedInOrder (set left at (less m))
order_less left pins at m order first is = record {
  rising = pairs_set (λ a b. move_before a b ≡ true) left at (less m) first.within
      (λ k d low. ap (λ (n : Move). move_before (get_or left k d) n) (read d) ∙ order.rising k at d low first.within)
      (λ k d high below. ap (λ (n : Move). move_before n (get_or left k d)) (read d) ∙ order.rising at k d high below) order.rising;
  used = pairs_set (λ a b. moved_pins a ≡ moved_pins b → 1 ≤ a.count → 1 ≤ b.count) left at (less m) first.within
      (λ k d low same some. absurd (omega (arith, first.first k d low (same ∙ for_pins))))
      (λ k d high below same some.
      let there = order.used at k d high below (ap moved_pins (sym (read d)) ∙ same) in
      there (omega (arith, ap (λ (n : Move). n.count) (read d)))) order.used;
}
  where
    read : (d : Move) → m ≡ get_or left at d
    read d = is ∙ get_or_default left at m d first.within

    for_pins : moved_pins m ≡ pins
    for_pins = ap moved_pins is ∙ first.same m

split_one : (b : Bool) (m : ℕ) → 1 ≤ m → cond b (m - 1) 0 + cond b 1 0 ≡ cond b m 0
split_one true m some = omega arith
split_one false m some = refl

-- what is left of some pins and places, once one pin is sent
pub sum_less : (test : PinKind → Option ℕ → Bool) (left : List Move) (pins : PinKind) (at : ℕ) (m : Move)
    → IsFirstLeft moved_pins (λ (n : Move). n.count) left pins at → m ≡ get_or left at m
    → sum_by (λ (n : Move). cond (test (moved_pins n) n.to) n.count 0) (set left at (less m)) + cond (test pins m.to) 1 0
    ≡ sum_by (λ (n : Move). cond (test (moved_pins n) n.to) n.count 0) left
sum_less test left pins at m first is =
    let f : Move → ℕ = λ n. cond (test (moved_pins n) n.to) n.count 0 in
    let all = sum_by-set f left at (less m) m first.within in
    let here = ap f is in
    let some : 1 ≤ m.count = omega (arith, first.some m, ap (λ (n : Move). n.count) is) in
    let parts = split_one (test (moved_pins m) m.to) m.count some in
    let same : cond {A = ℕ} (test (moved_pins m) m.to) 1 0 ≡ cond {A = ℕ} (test pins m.to) 1 0 =
    ap (λ (p : PinKind). cond {A = ℕ} (test p m.to) 1 0) (ap moved_pins is ∙ first.same m) in
    omega arith

none_of : (b : Bool) (n : ℕ) → n ≡ 0 → cond b n 0 ≡ 0
none_of true n none = none
none_of false n none = refl

-- a move whose pins have none left has none
none_here : (m : Move) (moves : List Move) → moved_with (m ∷ moves) m.place m.want m.cost ≡ 0 → m.count ≡ 0
none_here m moves none =
    let f : Move → ℕ = λ n. cond (same_kind (moved_pins m) (moved_pins n)) n.count 0 in
    let itself : f m ≡ m.count = rw (same_kind-refl (moved_pins m)) refl in
    omega (arith, sum_by-cons f m moves)

pub nothing_left : NothingIsLeft
nothing_left [] none usable kind to = refl
nothing_left (m ∷ moves) none usable kind to =
    let f : Move → ℕ = λ n. cond (is_move kind to (moved_kind usable n, n.to)) n.count 0 in
    let here : f m ≡ 0 = none_of (is_move kind to (moved_kind usable m, m.to)) m.count (none_here m moves (none m.place m.want m.cost)) in
    let rest = nothing_left moves (λ place want cost. rest_none place want cost) usable kind to in
    omega (arith, sum_by-cons f m moves)
  where
    rest_none : (place : Option ℕ) (want cost : ℕ) → moved_with moves place want cost ≡ 0
    rest_none place want cost =
        let g : Move → ℕ = λ n. cond (same_kind (record { place = place; permitted = want; cost = cost }) (moved_pins n)) n.count 0 in
        omega (arith, none place want cost, sum_by-cons g m moves)
