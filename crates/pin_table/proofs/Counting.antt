-- Counts of pins through each change.
use Rattle.std.proofs.Common.{◌≡◌, ℕ, ◌+◌, ◌<◌, ◌≤◌, ◌^◌, Bool, true, false, cond, List, [], ◌∷◌, ◌++◌, length, Option, None, Some, Result, Ok, Err, OnOk, is_err, true≢false, refl, sym, ap, subst, length-append, arith}
use Rattle.std.proofs.lemmas.List.Sums.{sum_by-cons, sum_by-append, sum_by_push, count_by-le-length}
use Rattle.std.specs.Bool.{Decides}
use Rattle.std.specs.Option.{IfNone}
use Rattle.pin_counts.specs.Counts.{HasOneMore, HasChanged, one_if_same}
use Rattle.pin_recent.specs.Recent.{touched}
use Rattle.pin_set.specs.declared.pin.PinId.{PinId}
use Rattle.pin_set.specs.declared.table_pin.TablePin.{TablePin}
use Rattle.lb_desk_model.specs.Serves.{IsNew}
use Rattle.lb_types_pins.specs.Kinds.{same_place}
use Rattle.pin_table.specs.declared.held.Held.{Held}
use Rattle.pin_table.specs.declared.table_kind.TableKind.{TableKind}
use Rattle.pin_table.specs.Counted.{listed, AreApart, AreCounted}
use Rattle.pin_table.specs.Kinds.{kind_of, same_kind, pins_of, counted_of, AreCounts}
use Rattle.pin_table.specs.Pins.{held_pin, Stands, IsTakenOut}
use Rattle.pin_table.proofs.Apart.{apart-push, apart-used, apart-without}
use Rattle.pin_table.proofs.Used.{held_in, listed-push, touched_listed}

pub on_ok : {A E P : Type 0} (r : Result A E) → OnOk r P → false ≡ is_err r → P
on_ok (Ok x) holds e = holds
on_ok (Err x) holds e = absurd (true≢false (sym e))

pub if_none : {A P : Type 0} (found : Option A) → P → IfNone found P
if_none None holds = holds
if_none (Some x) holds = tt

-- 1 where the pin is of the kind, else 0
abbrev one : TableKind → TablePin → ℕ
one kind p = one_if_same same_kind kind (kind_of p)

eqb-refl : (n : ℕ) → lib.Dec.eqb n n ≡ true
eqb-refl n = grind (arith, Rattle.std.proofs.lemmas.Bool.Decides.nat_tests)

place-refl : (p : Option ℕ) → same_place p p ≡ true
place-refl None = refl
place-refl (Some s) = eqb-refl s

pub kind-refl : (kind : TableKind) → same_kind kind kind ≡ true
kind-refl kind = rw (place-refl kind.place, eqb-refl kind.want, eqb-refl kind.cost) refl

one-refl : (p : TablePin) → one (kind_of p) p ≡ 1
one-refl p = ap (λ t. cond t 1 0) (kind-refl (kind_of p))

pub pins_of-cons : (kind : TableKind) (p : TablePin) (pins : List TablePin) → pins_of (p ∷ pins) kind ≡ one kind p + pins_of pins kind
pins_of-cons kind p pins = sum_by-cons (λ (q : TablePin). cond (same_kind kind (kind_of q)) 1 0) p pins

pub pins_of-push : (kind : TableKind) (pins : List TablePin) (p : TablePin) → pins_of (pins ++ p ∷ []) kind ≡ pins_of pins kind + one kind p
pins_of-push kind pins p = sum_by_push (λ (q : TablePin). cond (same_kind kind (kind_of q)) 1 0) pins p

pins_of-append : (kind : TableKind) (xs ys : List TablePin) → pins_of (xs ++ ys) kind ≡ pins_of xs kind + pins_of ys kind
pins_of-append kind xs ys = sum_by-append (λ (q : TablePin). cond (same_kind kind (kind_of q)) 1 0) xs ys

-- one pin fewer
pub fewer-out : (name : PinId) (held : Held) (pins left : List TablePin) → IsTakenOut name held pins left → length left ≤ length pins
fewer-out name held pins left t =
    omega (
      arith,
      ap length t.2.is,
      ap length t.3,
      length-append t.0 (held_pin name held ∷ t.1),
      length-append t.0 t.1,
    )

-- another pin in its place, behind the others
pub pins_of-used : (kind : TableKind) (before : List TablePin) (found : TablePin) (after : List TablePin) (used : TablePin)
    → pins_of (before ++ after ++ used ∷ []) kind + one kind found ≡ pins_of (before ++ found ∷ after) kind + one kind used
pins_of-used kind before found after used =
    omega (
      arith,
      pins_of-push kind (before ++ after) used,
      pins_of-append kind before after,
      pins_of-append kind before (found ∷ after),
      pins_of-cons kind found after,
    )

module _ (counts : List (TableKind × ℕ)) where
  -- the counts fit
  pub fits : (pins : List TablePin) → AreCounts pins counts → length pins < 2 ^ 32 → (kind : TableKind) → counted_of counts kind + 1 < 2 ^ 64
  fits pins are few kind = omega (arith, are kind, count_by-le-length (λ (q : TablePin). same_kind kind (kind_of q)) pins)

  -- there is one of a kind that stands among the pins
  pub some_first : (p : TablePin) (pins : List TablePin) → AreCounts (p ∷ pins) counts → 0 < counted_of counts (kind_of p)
  some_first p pins are = omega (arith, are (kind_of p), pins_of-cons (kind_of p) p pins, one-refl p)

  pub some_between : (before : List TablePin) (found : TablePin) (after pins : List TablePin) → pins ≡ before ++ found ∷ after → AreCounts pins counts → 0 < counted_of counts (kind_of found)
  some_between before found after pins is are =
      omega (
        arith,
        are (kind_of found),
        ap (λ l. pins_of l (kind_of found)) is,
        pins_of-append (kind_of found) before (found ∷ after),
        pins_of-cons (kind_of found) found after,
        one-refl found,
      )

  -- and after one was counted
  pub some_more : (more : List (TableKind × ℕ)) (p : TablePin) → HasOneMore same_kind counts (kind_of p) more → 0 < counted_of more (kind_of p)
  some_more more p has = omega (arith, has (kind_of p), one-refl p)

  module _ (new : List (TableKind × ℕ)) where
    pub counts-back : (pins : List TablePin) (more : List (TableKind × ℕ)) (p : TablePin) → AreCounts pins counts → HasOneMore same_kind counts (kind_of p) more
        → HasOneMore same_kind new (kind_of p) more → AreCounts pins new
    counts-back pins more p are has had kind = omega (arith, are kind, has kind, had kind)

    pub counted-push : (pairs : List (PinId × Held)) (name : PinId) (held : Held) → AreCounted (listed pairs) counts → IsNew name (listed pairs)
        → HasOneMore same_kind counts (kind_of (held_pin name held)) new → AreCounted (listed (pairs ++ (name, held) ∷ [])) new
    counted-push pairs name held are unknown has =
        let p = held_pin name held in
        subst (λ l. AreCounted l new) (sym (listed-push pairs name held)) record {
          apart = apart-push (listed pairs) p are.apart unknown;
          counted = λ kind. omega (arith, are.counted kind, has kind, pins_of-push kind (listed pairs) p);
        }

    pub counted-pop : (name : PinId) (held : Held) (pairs rest : List (PinId × Held)) → AreCounted (listed pairs) counts → pairs ≡ (name, held) ∷ rest
        → HasOneMore same_kind new (kind_of (held_pin name held)) counts → AreCounted (listed rest) new
    counted-pop name held pairs rest are is has =
        let all = subst (λ l. AreCounted (listed l) counts) is are in
        record {
          apart = all.apart.1;
          counted = λ kind. omega (arith, all.counted kind, has kind, pins_of-cons kind (held_pin name held) (listed rest));
        }

    -- a pin that goes
    pub counted-out : (name : PinId) (held : Held) (pins left : List TablePin) → AreCounted pins counts → IsTakenOut name held pins left
        → HasOneMore same_kind new (kind_of (held_pin name held)) counts → AreCounted left new
    counted-out name held pins left are t has =
        let found = held_pin name held in
        subst (λ l. AreCounted l new) (sym t.3) record {
          apart = (apart-without t.0 found t.1 (subst AreApart t.2.is are.apart)).0;
          counted = λ kind.
              omega (
                arith,
                are.counted kind,
                has kind,
                ap (λ l. pins_of l kind) t.2.is,
                pins_of-append kind t.0 (found ∷ t.1),
                pins_of-cons kind found t.1,
                pins_of-append kind t.0 t.1,
              );
        }

    module _ (eq : PinId → PinId → Bool) (decides : (a b : PinId) → Decides (eq a b) (a ≡ b)) where
      -- a use, with the counts changed as the pin is
      pub counted-used : (name : PinId) (held : Held) (place : Option ℕ) (now : ℕ) (pairs : List (PinId × Held)) → AreCounted (listed pairs) counts → Stands name held (listed pairs)
          → HasChanged same_kind counts (kind_of (held_pin name held)) (kind_of (held_pin name (held_in held place now))) new
          → AreCounted (listed (touched (eq name) (held_in held place now) pairs)) new
      counted-used name held place now pairs are stands has =
          let found = held_pin name held in
          let used = held_pin name (held_in held place now) in
          let is = touched_listed eq decides name (held_in held place now) pairs stands.0 found stands.1 are.apart stands.2 in
          let all = subst (λ l. AreCounted l counts) stands.2.is are in
          subst (λ l. AreCounted l new) (sym is) record {
            apart = apart-used stands.0 found stands.1 used all.apart refl;
            counted = λ kind. omega (arith, all.counted kind, has kind, pins_of-used kind stands.0 found stands.1 used);
          }
