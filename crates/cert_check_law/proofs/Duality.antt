-- Weak duality for single pins, and what follows: an assignment whose cost meets a bound is best.
use Rattle.std.proofs.Common.{◌≡◌, Some, None, Option, ℕ, zero, suc, ◌+◌, ◌*◌, ◌<◌, ◌≤◌, Bool, true, false, cond, eqb, List, [], ◌∷◌, refl, sym, ap, ◌∙◌, inl, inr, arith, length}
use Rattle.std.specs.Prelude.{is_none}
use Rattle.std.specs.List.{sum_by, All, zip}
use Rattle.std.proofs.lemmas.Bool.{cases_eq, cases_lt, ne_eqb, eq-eqb}
use Rattle.std.proofs.lemmas.List.Sums.{sum_by-cons}
use Rattle.std.proofs.lemmas.List.Elements.{All-head, All-tail, All-cons, All-nil}
use Rattle.std.proofs.Math.Nat.{mul-le-mul_right}
use Rattle.lb_types_pins.specs.declared.kind.PinKind.{PinKind}
use Rattle.lb_types_pins.specs.Kinds.{same_place}
use Rattle.pin_set.specs.Costs.{option_cost, least, sum_to, held, move_cost}
use Rattle.pin_set.specs.Assignments.{is_at, may_go, load, unplaced, spent, MayGo, IsLawful, IsBest, unplaced_cost, total_cost, least_total, PermitsBelow, BoundHolds}
use Rattle.cert_check_law.proofs.Sums.{sum_to-same, sum_to-suc, sum_to-zero, sum_to-add, sum_to-le, least-le_none, least-le_some}

-- the price of a place. Going without a server has none
abbrev pub price_of : (ℕ → ℕ) → Option ℕ → ℕ
price_of price None = 0
price_of price (Some server) = price server

-- the place is among the first n servers, or none
abbrev pub PlacedBelow : ℕ → Option ℕ → Type 0
PlacedBelow n None = Unit {0}
PlacedBelow n (Some server) = server < n

-- of the servers, one alone is this one
pub sum_to-one : (n : ℕ) (f : ℕ → ℕ) (k : ℕ) → k < n → sum_to n (λ s. cond (eqb k s) (f s) 0) ≡ f k
sum_to-one zero f k below = absurd (omega arith)
sum_to-one (suc n) f k below =
    let one = sum_to-suc n (λ s. cond (eqb k s) (f s) 0) in
    elim (cases_eq k n) [
      | inl same ↦
          let none : sum_to n (λ s. cond (eqb k s) (f s) 0) ≡ 0 =
          sum_to-zero n (λ s. cond (eqb k s) (f s) 0) (λ s earlier. rw (ne_eqb k s (λ e. absurd (omega arith))) refl) in
          let last : cond (eqb k n) (f n) 0 ≡ f n = rw (eq-eqb k n same) refl in
          omega (arith, ap f same)
      | inr other ↦
          let last : cond (eqb k n) (f n) 0 ≡ 0 = rw (ne_eqb k n other) refl in
          omega (arith, sum_to-one n f k (omega arith))
    ]

pub sum_to-place : (n : ℕ) (price : ℕ → ℕ) (place : Option ℕ) → PlacedBelow n place
    → sum_to n (λ s. cond (is_at s place) (price s) 0) ≡ price_of price place
sum_to-place n price None below = sum_to-zero n (λ s. 0) (λ s earlier. refl)
sum_to-place n price (Some server) below = sum_to-one n price server below

load-cons : (place : Option ℕ) (a : List (Option ℕ)) (s : ℕ) → load (place ∷ a) s ≡ cond (is_at s place) 1 0 + load a s
load-cons place a s = sum_by-cons (λ p. cond (is_at s p) 1 0) place a

one_more-times : (b : Bool) (m p : ℕ) → (cond b 1 0 + m) * p ≡ cond b p 0 + m * p
one_more-times true m p = omega arith
one_more-times false m p = omega arith

-- the prices of all pins' places are the servers' loads times their prices
pub prices-loads : (n : ℕ) (price : ℕ → ℕ) (a : List (Option ℕ)) → All (PlacedBelow n) a
    → sum_by (price_of price) a ≡ sum_to n (λ s. load a s * price s)
prices-loads n price [] below = sym (sum_to-zero n (λ s. load [] s * price s) (λ s earlier. omega arith))
prices-loads n price (place ∷ a) below =
    let here = sum_to-place n price place (All-head (PlacedBelow n) place a below) in
    let rest = prices-loads n price a (All-tail (PlacedBelow n) place a below) in
    let each = sum_to-same n (λ s. load (place ∷ a) s * price s) (λ s. cond (is_at s place) (price s) 0 + load a s * price s)
    (λ s earlier. ap (λ k. k * price s) (load-cons place a s) ∙ one_more-times (is_at s place) (load a s) (price s)) in
    let both = sum_to-add n (λ s. cond (is_at s place) (price s) 0) (λ s. load a s * price s) in
    omega (arith, sum_by-cons (price_of price) place a)

-- a pin that may go there goes among the first n servers
placed_below : (n : ℕ) (kind : PinKind) (place : Option ℕ) → PermitsBelow n kind → may_go kind place ≡ true → PlacedBelow n place
placed_below n kind None below goes = tt
placed_below n kind (Some server) below goes = below server goes

-- the least over the options is at most cost and price of any option that the pin may take
pub least-le : (u : ℕ) (price : ℕ → ℕ) (n : ℕ) (kind : PinKind) (place : Option ℕ) → PermitsBelow n kind → may_go kind place ≡ true
    → least u price n kind ≤ option_cost u kind place + price_of price place
least-le u price n kind None below goes = omega (arith, least-le_none u price n kind)
least-le u price n kind (Some server) below goes = least-le_some u price n kind server (below server goes) goes

-- the pins' places are among the first n servers
pub places_below : (n : ℕ) (pins : List PinKind) (a : List (Option ℕ)) → length a ≡ length pins
    → All (PermitsBelow n) pins → All MayGo (zip pins a) → All (PlacedBelow n) a
places_below n pins [] whole below goes = All-nil (PlacedBelow n)
places_below n [] (place ∷ a) whole below goes = absurd (omega arith)
places_below n (kind ∷ pins) (place ∷ a) whole below goes =
    All-cons (PlacedBelow n) place a
    (placed_below n kind place (All-head (PermitsBelow n) kind pins below) (All-head MayGo (kind, place) (zip pins a) goes))
    (places_below n pins a (omega arith) (All-tail (PermitsBelow n) kind pins below) (All-tail MayGo (kind, place) (zip pins a) goes))

pub least_total-le : (u : ℕ) (price : ℕ → ℕ) (n : ℕ) (pins : List PinKind) (a : List (Option ℕ)) → length a ≡ length pins
    → All (PermitsBelow n) pins → All MayGo (zip pins a)
    → least_total u price n pins ≤ total_cost u pins a + sum_by (price_of price) a
least_total-le u price n [] a whole below goes = omega arith
least_total-le u price n (kind ∷ pins) [] whole below goes = absurd (omega arith)
least_total-le u price n (kind ∷ pins) (place ∷ a) whole below goes =
    let here = least-le u price n kind place (All-head (PermitsBelow n) kind pins below) (All-head MayGo (kind, place) (zip pins a) goes) in
    let rest = least_total-le u price n pins a (omega arith) (All-tail (PermitsBelow n) kind pins below) (All-tail MayGo (kind, place) (zip pins a) goes) in
    omega (
      arith,
      sum_by-cons (least u price n) kind pins,
      sum_by-cons (price_of price) place a,
      sum_by-cons (λ (m : PinKind × Option ℕ). option_cost u m.0 m.1) (kind, place) (zip pins a),
    )

-- weak duality
pub bound_holds : (u : ℕ) (capacity price : ℕ → ℕ) (n : ℕ) (pins : List PinKind) → All (PermitsBelow n) pins → BoundHolds u capacity price n pins
bound_holds u capacity price n pins below a lawful =
    let least = least_total-le u price n pins a lawful.whole below lawful.permitted in
    let paid = prices-loads n price a (places_below n pins a lawful.whole below lawful.permitted) in
    let within = sum_to-le n (λ s. load a s * price s) (λ s. capacity s * price s) (λ s earlier. mul-le-mul_right (price s) (lawful.within s)) in
    omega arith

-- the costs of the options are `u` for each pin without a server, and what the moves cost
pub total_cost-split : (u : ℕ) (pins : List PinKind) (a : List (Option ℕ)) → length a ≡ length pins
    → total_cost u pins a ≡ unplaced a * u + spent pins a
total_cost-split u [] [] whole = omega arith
total_cost-split u [] (place ∷ a) whole = absurd (omega arith)
total_cost-split u (kind ∷ pins) [] whole = absurd (omega arith)
total_cost-split u (kind ∷ pins) (place ∷ a) whole =
    let here : option_cost u kind place ≡ cond (is_none place) 1 0 * u + move_cost kind place =
    elim place as (λ p. option_cost u kind p ≡ cond (is_none p) 1 0 * u + move_cost kind p) [ None ↦ omega arith | Some s ↦ omega arith ] in
    let rest = total_cost-split u pins a (omega arith) in
    let more = sum_by-cons (λ (p : Option ℕ). cond (is_none p) 1 0) place a in
    let times : unplaced (place ∷ a) * u ≡ cond (is_none place) 1 0 * u + unplaced a * u = ap (λ k. k * u) more ∙ omega arith in
    omega (
      arith,
      sum_by-cons (λ (m : PinKind × Option ℕ). option_cost u m.0 m.1) (kind, place) (zip pins a),
      sum_by-cons (λ (m : PinKind × Option ℕ). move_cost m.0 m.1) (kind, place) (zip pins a),
    )

-- all moves together cost less than leaving one pin without a server
pub move_cost-le : (kind : PinKind) (place : Option ℕ) → move_cost kind place ≤ kind.cost
move_cost-le kind place =
    elim (same_place kind.place place) as (λ b. cond b 0 kind.cost ≤ kind.cost) [ true ↦ omega arith | false ↦ omega arith ]

pub spent-lt : (pins : List PinKind) (a : List (Option ℕ)) → spent pins a < unplaced_cost pins
spent-lt [] a = omega arith
spent-lt (kind ∷ pins) [] = omega arith
spent-lt (kind ∷ pins) (place ∷ a) =
    let here = move_cost-le kind place in
    let rest = spent-lt pins a in
    omega (
      arith,
      sum_by-cons (λ (m : PinKind × Option ℕ). move_cost m.0 m.1) (kind, place) (zip pins a),
      sum_by-cons (λ (k : PinKind). k.cost) kind pins,
    )

-- of two lawful assignments, the one whose options cost no more is no worse
fewest_from_cost : (u ua ub sa sb : ℕ) → ua * u + sa ≤ ub * u + sb → sb < u → ua ≤ ub
fewest_from_cost u ua ub sa sb cost below =
    elim (cases_lt ub ua) [
      | inl fewer ↦
          let one_more : (ub + 1) * u ≤ ua * u = mul-le-mul_right u (omega arith) in
          absurd (omega arith)
      | inr within ↦ within
    ]

cheapest_from_cost : (u ua ub sa sb : ℕ) → ua * u + sa ≤ ub * u + sb → ub ≡ ua → sa ≤ sb
cheapest_from_cost u ua ub sa sb cost same =
    let times : ub * u ≡ ua * u = ap (λ k. k * u) same in
    omega arith

-- a lawful assignment whose options cost what some prices show to be the least is best
pub best_at_bound : (capacity price : ℕ → ℕ) (n : ℕ) (pins : List PinKind) (a : List (Option ℕ)) → All (PermitsBelow n) pins
    → IsLawful capacity pins a
    → total_cost (unplaced_cost pins) pins a + held n capacity price ≤ least_total (unplaced_cost pins) price n pins
    → IsBest capacity pins a
best_at_bound capacity price n pins a below lawful shown =
    let u = unplaced_cost pins in
    let no_more : (b : List (Option ℕ)) → IsLawful capacity pins b → unplaced a * u + spent pins a ≤ unplaced b * u + spent pins b =
    λ b other. omega (arith, bound_holds u capacity price n pins below b other, total_cost-split u pins a lawful.whole, total_cost-split u pins b other.whole) in
    record {
      lawful = lawful;
      fewest = λ b other. fewest_from_cost u (unplaced a) (unplaced b) (spent pins a) (spent pins b) (no_more b other) (spent-lt pins b);
      cheapest = λ b other same. cheapest_from_cost u (unplaced a) (unplaced b) (spent pins a) (spent pins b) (no_more b other) same;
    }
