-- Kinds of pins and rows are strictly ordered.
use Rattle.std.proofs.Common.{◌≡◌, ℕ, suc, ◌+◌, ◌<◌, ◌≤◌, Bool, true, false, ◌&&◌, ◌||◌, eqb, ltb, Option, Some, None, refl, ap, sym, ◌∙◌, arith, ◌⊎◌, inl, inr}
use Rattle.std.proofs.lemmas.Bool.{eqb-true, and_parts, or_cases, or_left, or_right}
use Rattle.std.proofs.lemmas.Bool.Decides.{nat_tests}
use Rattle.lb_types_pins.specs.declared.kind.PinKind.{PinKind}
use Rattle.lb_types_pins.specs.declared.kind.Row.{Row}
use Rattle.lb_types_pins.specs.Kinds.{same_place, same_kind, place_rank, place_before, kind_before, row_before}

-- two places are the same where their ranks are
pub same_place-rank : (p q : Option ℕ) → same_place p q ≡ eqb (place_rank p) (place_rank q)
same_place-rank None None = refl
same_place-rank None (Some t) = grind (arith, nat_tests)
same_place-rank (Some s) None = grind (arith, nat_tests)
same_place-rank (Some s) (Some t) = grind (arith, nat_tests)

pub rank-place : (p q : Option ℕ) → place_rank p ≡ place_rank q → p ≡ q
rank-place None None same = refl
rank-place None (Some t) same = absurd (omega arith)
rank-place (Some s) None same = absurd (omega arith)
rank-place (Some s) (Some t) same = let e : s ≡ t = omega arith in rw e refl

pub same_place-true : (p q : Option ℕ) → same_place p q ≡ true → p ≡ q
same_place-true p q same = rank-place p q (eqb-true _ _ (sym (same_place-rank p q) ∙ same))

pub same_place-refl : (p : Option ℕ) → same_place p p ≡ true
same_place-refl p = same_place-rank p p ∙ grind (arith, nat_tests)

-- the order of three numbers, one after another
abbrev earlier : ℕ → ℕ → ℕ → ℕ → ℕ → ℕ → Bool
earlier p s c p' s' c' = ltb p p' || (eqb p p' && (ltb s s' || (eqb s s' && ltb c c')))

abbrev alike : ℕ → ℕ → ℕ → ℕ → ℕ → ℕ → Bool
alike p s c p' s' c' = eqb p p' && (eqb s s' && eqb c c')

kind_before-earlier : (a b : PinKind) → kind_before a b ≡ earlier (place_rank a.place) a.permitted a.cost (place_rank b.place) b.permitted b.cost
kind_before-earlier a b = rw (same_place-rank a.place b.place) refl

same_kind-alike : (a b : PinKind) → same_kind a b ≡ alike (place_rank a.place) a.permitted a.cost (place_rank b.place) b.permitted b.cost
same_kind-alike a b = rw (same_place-rank a.place b.place) refl

earlier-trans : (p s c p' s' c' p'' s'' c'' : ℕ) → earlier p s c p' s' c' ≡ true → earlier p' s' c' p'' s'' c'' ≡ true → earlier p s c p'' s'' c'' ≡ true
earlier-trans p s c p' s' c' p'' s'' c'' first second = grind (arith, nat_tests)

earlier-irrefl : (p s c : ℕ) → earlier p s c p s c ≡ false
earlier-irrefl p s c = grind (arith, nat_tests)

earlier-total : (p s c p' s' c' : ℕ) → earlier p s c p' s' c' ≡ false → alike p s c p' s' c' ≡ false → earlier p' s' c' p s c ≡ true
earlier-total p s c p' s' c' later other = grind (arith, nat_tests)

pub kind_before-trans : (a b c : PinKind) → kind_before a b ≡ true → kind_before b c ≡ true → kind_before a c ≡ true
kind_before-trans a b c first second =
    kind_before-earlier a c
    ∙ earlier-trans (place_rank a.place) a.permitted a.cost (place_rank b.place) b.permitted b.cost (place_rank c.place) c.permitted c.cost (sym (kind_before-earlier a b) ∙ first) (sym (kind_before-earlier b c) ∙ second)

pub kind_before-irrefl : (a : PinKind) → kind_before a a ≡ false
kind_before-irrefl a = kind_before-earlier a a ∙ earlier-irrefl (place_rank a.place) a.permitted a.cost

pub kind_before-total : (a b : PinKind) → kind_before a b ≡ false → same_kind a b ≡ false → kind_before b a ≡ true
kind_before-total a b later other =
    kind_before-earlier b a ∙ earlier-total (place_rank a.place) a.permitted a.cost (place_rank b.place) b.permitted b.cost (sym (kind_before-earlier a b) ∙ later) (sym (same_kind-alike a b) ∙ other)

-- the kind of these fields
kind_of : Option ℕ → ℕ → ℕ → PinKind
kind_of place permitted cost = record { place = place; permitted = permitted; cost = cost }

kind_of-fields : (a b : PinKind) → a.place ≡ b.place → a.permitted ≡ b.permitted → a.cost ≡ b.cost → a ≡ b
unfolding kind_of
kind_of-fields a b place permitted cost = let e : kind_of a.place a.permitted a.cost ≡ kind_of b.place b.permitted b.cost = rw (place, permitted, cost) refl in e

pub same_kind-true : (a b : PinKind) → same_kind a b ≡ true → a ≡ b
same_kind-true a b same =
    let parts = and_parts (same_place a.place b.place) (eqb a.permitted b.permitted && eqb a.cost b.cost) same in
    let others = and_parts (eqb a.permitted b.permitted) (eqb a.cost b.cost) parts.1 in
    kind_of-fields a b (same_place-true _ _ parts.0) (eqb-true _ _ others.0) (eqb-true _ _ others.1)

pub same_kind-refl : (a : PinKind) → same_kind a a ≡ true
same_kind-refl a = same_kind-alike a a ∙ alike-refl (place_rank a.place) a.permitted a.cost
  where
    alike-refl : (p s c : ℕ) → alike p s c p s c ≡ true
    alike-refl p s c = grind (arith, nat_tests)

-- a row's order by the ranks of its kind and of its new place
pub row_earlier : (a b : Row) → row_before a b ≡ true → (kind_before a.kind b.kind ≡ true) ⊎ ((a.kind ≡ b.kind) × (place_before a.new_place b.new_place ≡ true))
row_earlier a b before =
    elim (or_cases (kind_before a.kind b.kind) (same_kind a.kind b.kind && place_before a.new_place b.new_place) before) [
      | inl kinds ↦ inl kinds
      | inr same ↦ let parts = and_parts (same_kind a.kind b.kind) (place_before a.new_place b.new_place) same in
          inr (same_kind-true a.kind b.kind parts.0, parts.1)
    ]

from_kind : (a b : Row) → kind_before a.kind b.kind ≡ true → row_before a b ≡ true
from_kind a b kinds = rw kinds refl

from_place : (a b : Row) → a.kind ≡ b.kind → place_before a.new_place b.new_place ≡ true → row_before a b ≡ true
from_place a b same places =
    let alike : same_kind a.kind b.kind ≡ true = rw same (same_kind-refl b.kind) in
    let rest : (same_kind a.kind b.kind && place_before a.new_place b.new_place) ≡ true = rw (alike, places) refl in
    or_right (kind_before a.kind b.kind) (same_kind a.kind b.kind && place_before a.new_place b.new_place) rest

place_before-trans : (p q r : Option ℕ) → place_before p q ≡ true → place_before q r ≡ true → place_before p r ≡ true
place_before-trans p q r first second = ltb_trans (place_rank p) (place_rank q) (place_rank r) first second
  where
    ltb_trans : (x y z : ℕ) → ltb x y ≡ true → ltb y z ≡ true → ltb x z ≡ true
    ltb_trans x y z first second = grind (arith, nat_tests)

pub row_before-trans : (a b c : Row) → row_before a b ≡ true → row_before b c ≡ true → row_before a c ≡ true
row_before-trans a b c first second =
    elim (row_earlier a b first) [
      | inl ab ↦ elim (row_earlier b c second) [
        | inl bc ↦ from_kind a c (kind_before-trans a.kind b.kind c.kind ab bc)
        | inr bc ↦ from_kind a c (rw (← bc.0) ab)
      ]
      | inr ab ↦ elim (row_earlier b c second) [
        | inl bc ↦ from_kind a c (rw ab.0 bc)
        | inr bc ↦ from_place a c (ab.0 ∙ bc.0) (place_before-trans a.new_place b.new_place c.new_place ab.1 bc.1)
      ]
    ]
