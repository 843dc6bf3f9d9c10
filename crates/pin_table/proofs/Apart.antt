-- Lists of pins of which no two have one name.
use Rattle.std.proofs.Common.{◌≡◌, ◌≢◌, List, [], ◌∷◌, ◌++◌, All, sym, arith}
use Rattle.std.proofs.lemmas.List.Elements.{All-nil, All-cons, All-head, All-tail, All-push, All-weaker}
use Rattle.std.proofs.lemmas.List.Kept.{AllPairs-cons}
use Rattle.std.specs.List.{AllPairs}
use Rattle.pin_set.specs.declared.pin.PinId.{PinId}
use Rattle.pin_set.specs.declared.table_pin.TablePin.{TablePin}
use Rattle.lb_desk_model.specs.Serves.{IsNew}
use Rattle.pin_table.specs.Counted.{AreApart}

-- what holds of each pin holds of each of the others, and of the one
pub All-without : {X : Type 0} (P : X → Type 0) (xs : List X) (x : X) (ys : List X) → All P (xs ++ x ∷ ys) → All P (xs ++ ys) × P x
All-without P [] x ys all = (All-tail P x ys all, All-head P x ys all)
All-without P (w ∷ xs) x ys all =
    let rest = All-without P xs x ys (All-tail P w (xs ++ x ∷ ys) all) in
    (All-cons P w (xs ++ ys) (All-head P w (xs ++ x ∷ ys) all) rest.0, rest.1)

pub flipped : (a b : PinId) → a ≢ b → b ≢ a
flipped a b apart same = apart (sym same)

pub apart-push : (pins : List TablePin) (p : TablePin) → AreApart pins → IsNew p.pin.id pins → AreApart (pins ++ p ∷ [])
apart-push [] p apart new = (All-nil (λ (q : TablePin). q.pin.id ≢ p.pin.id), tt)
apart-push (q ∷ pins) p apart new = (
  All-push (λ (r : TablePin). r.pin.id ≢ q.pin.id) pins p apart.0 (flipped q.pin.id p.pin.id (All-head (λ (r : TablePin). r.pin.id ≢ p.pin.id) q pins new)),
  apart-push pins p apart.1 (All-tail (λ (r : TablePin). r.pin.id ≢ p.pin.id) q pins new),
)

-- a pin between others: these have other names, and no two of them one name
pub apart-without : (before : List TablePin) (found : TablePin) (after : List TablePin) → AreApart (before ++ found ∷ after)
    → AreApart (before ++ after) × IsNew found.pin.id (before ++ after)
apart-without [] found after apart = (apart.1, apart.0)
apart-without (p ∷ before) found after apart =
    let rest = apart-without before found after apart.1 in
    let here = All-without (λ (r : TablePin). r.pin.id ≢ p.pin.id) before found after apart.0 in
    ((here.0, rest.0), All-cons (λ (r : TablePin). r.pin.id ≢ found.pin.id) p (before ++ after) (flipped found.pin.id p.pin.id here.1) rest.1)

-- it stands last under its name
pub apart-used : (before : List TablePin) (found : TablePin) (after : List TablePin) (used : TablePin) → AreApart (before ++ found ∷ after)
    → used.pin.id ≡ found.pin.id → AreApart (before ++ after ++ used ∷ [])
apart-used before found after used apart same =
    let parts = apart-without before found after apart in
    apart-push (before ++ after) used parts.0 (rw same parts.1)

pub all-pairs : (pins : List TablePin) → AreApart pins → AllPairs (λ a b. a.pin.id ≢ b.pin.id) pins
all-pairs [] apart = λ i j d below within. absurd (omega arith)
all-pairs (p ∷ pins) apart =
    AllPairs-cons (λ (a b : TablePin). a.pin.id ≢ b.pin.id) p pins
    (All-weaker (λ (q : TablePin). q.pin.id ≢ p.pin.id) (λ (q : TablePin). p.pin.id ≢ q.pin.id) (λ q differs. flipped q.pin.id p.pin.id differs) pins apart.0)
    (all-pairs pins apart.1)
