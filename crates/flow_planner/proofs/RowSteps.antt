-- The rows of a group, one option after another.
use Rattle.std.proofs.Common.{◌≡◌, Option, ℕ, ◌+◌, ◌<◌, ◌≤◌, ltb, List, [], ◌∷◌, ◌++◌, refl, sym, ap, ◌∙◌, append_assoc, append-nil, add-one}
use Rattle.std.proofs.lemmas.Bool.{lt-ltb, le-ltb}
use Rattle.lb_types_pins.specs.declared.kind.PinKind.{PinKind}
use Rattle.lb_types_pins.specs.declared.kind.Row.{Row}
use Rattle.flow_planner_net.specs.Networks.{NetworkParts, options, place_of, group_at}
use Rattle.flow_planner_net.specs.RowLists.{row_at, group_rows, rows_to}
use Rattle.flow_planner_net.proofs.RowSums.{one_row}

group_rows-more : (network : NetworkParts) (used : ℕ → ℕ → ℕ) (g o : ℕ)
    → group_rows network used g (o + 1) ≡ group_rows network used g o ++ one_row network used g o (ltb 0 (used o g))
unfolding group_rows
group_rows-more network used g o = rw add-one refl

pub group_rows-none : (network : NetworkParts) (used : ℕ → ℕ → ℕ) (g : ℕ) (rows : List Row) → rows ≡ rows ++ group_rows network used g 0
unfolding group_rows
group_rows-none network used g rows = sym (append-nil rows)

pub rows_to-none : (network : NetworkParts) (used : ℕ → ℕ → ℕ) → rows_to network used 0 ≡ []
unfolding rows_to
rows_to-none network used = refl

pub rows_to-more : (network : NetworkParts) (used : ℕ → ℕ → ℕ) (g : ℕ) → rows_to network used (g + 1) ≡ rows_to network used g ++ group_rows network used g (options network)
unfolding rows_to
rows_to-more network used g = rw add-one refl

row_with : PinKind → Option ℕ → ℕ → Row
row_with kind place pins = record { kind = kind; new_place = place; count = pins }

-- the row of an option at which there are pins
pub row_more : (network : NetworkParts) (used : ℕ → ℕ → ℕ) (g o : ℕ) (front rows : List Row) (r : Row) → rows ≡ front ++ group_rows network used g o
    → r.kind ≡ (group_at network g).kind → r.new_place ≡ place_of o → r.count ≡ used o g → 0 < used o g
    → rows ++ r ∷ [] ≡ front ++ group_rows network used g (o + 1)
unfolding row_with
row_more network used g o front rows r before kind place pins some =
    let this : r ≡ row_at network used g o = let e : row_with r.kind r.new_place r.count ≡ row_with (group_at network g).kind (place_of o) (used o g) = rw (kind, place, pins) refl in e in
    let written : one_row network used g o (ltb 0 (used o g)) ≡ row_at network used g o ∷ [] = rw (lt-ltb 0 (used o g) some) refl in
    let last : r ∷ [] ≡ one_row network used g o (ltb 0 (used o g)) = ap (λ (x : Row). x ∷ []) this ∙ sym written in
    ap (λ (xs : List Row). xs ++ r ∷ []) before
    ∙ (append_assoc front (group_rows network used g o) (r ∷ [])
    ∙ (ap (λ (xs : List Row). front ++ (group_rows network used g o ++ xs)) last
    ∙ ap (λ (xs : List Row). front ++ xs) (sym (group_rows-more network used g o))))

-- no row of an option at which there are none
pub row_past : (network : NetworkParts) (used : ℕ → ℕ → ℕ) (g o : ℕ) (front rows : List Row) → rows ≡ front ++ group_rows network used g o
    → used o g ≤ 0 → rows ≡ front ++ group_rows network used g (o + 1)
row_past network used g o front rows before none =
    let nothing : one_row network used g o (ltb 0 (used o g)) ≡ [] = rw (le-ltb 0 (used o g) none) refl in
    let same : group_rows network used g (o + 1) ≡ group_rows network used g o =
    group_rows-more network used g o ∙ (ap (λ (xs : List Row). group_rows network used g o ++ xs) nothing ∙ append-nil (group_rows network used g o)) in
    before ∙ ap (λ (xs : List Row). front ++ xs) (sym same)
