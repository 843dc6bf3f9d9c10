-- Pins of distinct names.
use Rattle.std.proofs.Common.{◌≡◌, ◌≢◌, ℕ, zero, suc, ◌+◌, ◌-◌, ◌≤◌, ◌⊎◌, inl, inr, Bool, true, false, cond, ◌||◌, List, [], ◌∷◌, ◌++◌, length, drop, refl, sym, ap, ◌∙◌, arith}
use Rattle.std.specs.Prelude.{All, AllPairs}
use Rattle.std.proofs.lemmas.Bool.{false≢true}
use Rattle.std.proofs.lemmas.List.Elements.{All-nil, All-cons}
use Rattle.lb_types_pins.proofs.Pairs.{AllPairs-nil, AllPairs-cons}
use Rattle.pin_set.specs.declared.pin.PinId.{PinId}
use Rattle.pin_set.specs.declared.table_pin.TablePin.{TablePin}
use Rattle.pin_set.specs.Names.{names_decide}
use Rattle.pin_set.specs.contracts.pin.PinIdPartialEq.TheImpl as name_eq
use Rattle.pin_file_return.specs.Returns.{is_named, last_of_each, last_ones}
use Rattle.pin_file_return.proofs.Parts.{IsPart, part-All}

abbrev pub same : PinId → PinId → Bool
same a b = (name_eq.ghosts).eq a b

-- ---- one name

or-eqs : (a b c : Bool) → (a ≡ true → c ≡ true) → ((a || c) ≡ c)
or-eqs true b c more = sym (more refl)
or-eqs false b c more = refl

-- pins of one name are found alike
named_alike : (name other : PinId) (pins : List TablePin) → same name other ≡ true → is_named name pins ≡ is_named other pins
named_alike name other pins e = ap (λ (n : PinId). is_named n pins) ((names_decide name other).0 e)

-- ---- the last one of each name

pub named_last : (name : PinId) (pins : List TablePin) → is_named name (last_of_each pins) ≡ is_named name pins
unfolding last_of_each
named_last name [] = refl
named_last name (p ∷ pins) = by (is_named p.pin.id pins) refl (named_last name pins)
  where
    by : (b : Bool) → is_named p.pin.id pins ≡ b → is_named name (last_of_each pins) ≡ is_named name pins
        → is_named name (cond b (last_of_each pins) (p ∷ last_of_each pins)) ≡ is_named name (p ∷ pins)
    by true there rest =
        rest ∙ sym (or-eqs (same name p.pin.id) true (is_named name pins) (λ e. named_alike name p.pin.id pins e ∙ there))
    by false there rest = ap (λ (b : Bool). same name p.pin.id || b) rest

pub part-last : (pins : List TablePin) → IsPart (last_of_each pins) pins
unfolding last_of_each
part-last [] = refl
part-last (p ∷ pins) = by (is_named p.pin.id pins) (part-last pins)
  where
    by : (b : Bool) → IsPart (last_of_each pins) pins → IsPart (cond b (last_of_each pins) (p ∷ last_of_each pins)) (p ∷ pins)
    by true rest = inl rest
    by false rest = inr (last_of_each pins, refl, rest)

abbrev pub Differ : TablePin → TablePin → Type 0
Differ a b = a.pin.id ≢ b.pin.id

differ_all : (p : TablePin) (pins : List TablePin) → is_named p.pin.id pins ≡ false → All (Differ p) pins
differ_all p [] none = All-nil (Differ p)
differ_all p (q ∷ pins) none = by (same p.pin.id q.pin.id) refl (differ_all p pins)
  where
    by : (b : Bool) → same p.pin.id q.pin.id ≡ b → (is_named p.pin.id pins ≡ false → All (Differ p) pins) → All (Differ p) (q ∷ pins)
    by true e rest = absurd (false≢true (sym none ∙ ap (λ (b : Bool). b || is_named p.pin.id pins) e))
    by false e rest = All-cons (Differ p) q pins
        (λ is. false≢true (sym e ∙ (names_decide p.pin.id q.pin.id).1 is))
        (rest (sym (ap (λ (b : Bool). b || is_named p.pin.id pins) e) ∙ none))

pub last_differ : (pins : List TablePin) → AllPairs Differ (last_of_each pins)
unfolding last_of_each
last_differ [] = AllPairs-nil Differ
last_differ (p ∷ pins) = by (is_named p.pin.id pins) refl (last_differ pins)
  where
    by : (b : Bool) → is_named p.pin.id pins ≡ b → AllPairs Differ (last_of_each pins)
        → AllPairs Differ (cond b (last_of_each pins) (p ∷ last_of_each pins))
    by true there rest = rest
    by false there rest =
        AllPairs-cons Differ p (last_of_each pins) (part-All (Differ p) (last_of_each pins) pins (part-last pins) (differ_all p pins there)) rest

-- what is kept of pins is kept of them behind others
pub last_behind : (front pins : List TablePin) → (more : List TablePin) × (last_of_each (front ++ pins) ≡ more ++ last_of_each pins)
unfolding last_of_each
last_behind [] pins = ([], refl)
last_behind (p ∷ front) pins = by (is_named p.pin.id (front ++ pins)) (last_behind front pins)
  where
    by : (b : Bool) → (more : List TablePin) × (last_of_each (front ++ pins) ≡ more ++ last_of_each pins)
        → (more : List TablePin) × (cond b (last_of_each (front ++ pins)) (p ∷ last_of_each (front ++ pins)) ≡ more ++ last_of_each pins)
    by true rest = rest
    by false rest = (p ∷ rest.0, ap (λ (l : List TablePin). p ∷ l) rest.1)

-- ---- the last ones

drop-behind : (front pins : List TablePin) (n : ℕ) → n ≡ length front → drop n (front ++ pins) ≡ pins
drop-behind [] pins zero e = refl
drop-behind [] pins (suc n) e = absurd (omega (arith, e))
drop-behind (p ∷ front) pins zero e = absurd (omega (arith, e))
drop-behind (p ∷ front) pins (suc n) e = drop-behind front pins n (omega (arith, e))

length-both : (xs ys : List TablePin) → length (xs ++ ys) ≡ length xs + length ys
length-both [] ys = omega arith
length-both (x ∷ xs) ys = let rest = length-both xs ys in omega (arith, rest)

pub last_few : (size : ℕ) (pins : List TablePin) → length pins ≤ size → last_ones size pins ≡ pins
last_few size pins few = let none : length pins - size ≡ 0 = omega (arith, few) in ap (λ (n : ℕ). drop n pins) none

pub last_full : (size : ℕ) (front pins : List TablePin) → length pins ≡ size → last_ones size (front ++ pins) ≡ pins
last_full size front pins full =
    let both = length-both front pins in
    drop-behind front pins (length (front ++ pins) - size) (omega (arith, both, full))

pub length-last : (size : ℕ) (pins : List TablePin) → length (last_ones size pins) ≤ size
length-last size pins = by size pins (length pins - size) (omega arith)
  where
    short : (n : ℕ) (l : List TablePin) → length (drop n l) + n ≤ length l ⊎ (length (drop n l) ≡ 0)
    short zero l = inl (omega arith)
    short (suc n) [] = inr refl
    short (suc n) (x ∷ l) = let rest = short n l in elim rest [
      | inl r ↦ inl (omega (arith, r))
      | inr r ↦ inr r
    ]

    by : (size : ℕ) (l : List TablePin) (n : ℕ) → length l ≤ n + size → length (drop n l) ≤ size
    by size l n within = elim (short n l) [
      | inl r ↦ omega (arith, r, within)
      | inr r ↦ omega (arith, r)
    ]
