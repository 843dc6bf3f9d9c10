-- How large a plan's sums can get.
use Rattle.std.proofs.Common.{Some, None, Option, ℕ, ◌+◌, ◌*◌, ◌≤◌, Bool, true, false, cond, List, arith}
use Rattle.std.specs.List.{sum_by, All}
use Rattle.std.proofs.lemmas.List.Sums.{sum_by-le-sum_by}
use Rattle.std.proofs.lemmas.List.Elements.{All-weaker}
use Rattle.std.proofs.Math.Nat.{mul-le-mul_right}
use Rattle.lb_types_pins.specs.declared.kind.PinKind.{PinKind}
use Rattle.lb_types_pins.specs.declared.kind.Row.{Row}
use Rattle.pin_set.specs.Costs.{option_cost, least, move_cost}
use Rattle.pin_set.specs.Rows.{rows_pins, rows_spent, rows_unplaced_cost, rows_cost, rows_least}
use Rattle.cert_check.specs.Ranges.{AreFew}
use Rattle.cert_check_law.proofs.Sums.{least-le_none, weighted-below}
use Rattle.cert_check_law.proofs.Duality.{move_cost-le}

-- a sum of some of the counts is at most the sum of all
pub part-le-pins : (p : Row → Bool) (rows : List Row) → sum_by (λ r. cond (p r) r.count 0) rows ≤ rows_pins rows
part-le-pins p rows =
    sum_by-le-sum_by (λ (r : Row). cond (p r) r.count 0) (λ (r : Row). r.count) rows
    (λ r. elim (p r) as (λ b. cond b r.count 0 ≤ r.count) [ true ↦ omega arith | false ↦ omega arith ])

-- a sum of counts times values, none of which is more than m, where there are at most 2^24 pins
few-weighted-le : (f : Row → ℕ) (m : ℕ) (rows : List Row) → AreFew rows → All (λ r. f r ≤ m) rows → sum_by (λ r. r.count * f r) rows ≤ 16777216 * m
few-weighted-le f m rows few each =
    let all = weighted-below (λ (r : Row). r.count) f m rows each in
    let most : rows_pins rows * m ≤ 16777216 * m = mul-le-mul_right m few.total in
    omega arith

-- what holds of each row of a cost of at most 1000
abbrev Cheap : Row → Type 0
Cheap r = r.kind.cost ≤ 1000

pub spent-fits : (rows : List Row) → AreFew rows → rows_spent rows ≤ 16777216000
spent-fits rows few =
    few-weighted-le (λ r. move_cost r.kind r.new_place) 1000 rows few
    (All-weaker Cheap (λ r. move_cost r.kind r.new_place ≤ 1000) (λ r cheap. omega (arith, move_cost-le r.kind r.new_place)) rows few.costs)

pub unplaced_cost-fits : (rows : List Row) → AreFew rows → rows_unplaced_cost rows ≤ 16777216001
unplaced_cost-fits rows few =
    omega (arith, few-weighted-le (λ r. r.kind.cost) 1000 rows few few.costs)

option_cost-le : (u : ℕ) (kind : PinKind) (to : Option ℕ) → option_cost u kind to ≤ u + kind.cost
option_cost-le u kind None = omega (arith, move_cost-le kind None)
option_cost-le u kind (Some s) = omega (arith, move_cost-le kind (Some s))

pub cost-fits : (u : ℕ) (rows : List Row) → AreFew rows → u ≤ 16777216001 → rows_cost u rows ≤ 16777216 * 16777217001
cost-fits u rows few high =
    few-weighted-le (λ r. option_cost u r.kind r.new_place) 16777217001 rows few
    (All-weaker Cheap (λ r. option_cost u r.kind r.new_place ≤ 16777217001) (λ r cheap. omega (arith, option_cost-le u r.kind r.new_place)) rows few.costs)

pub least-fits : (u : ℕ) (price : ℕ → ℕ) (n : ℕ) (rows : List Row) → AreFew rows → u ≤ 16777216001 → rows_least u price n rows ≤ 16777216 * 16777217001
least-fits u price n rows few high =
    few-weighted-le (λ r. least u price n r.kind) 16777217001 rows few
    (All-weaker Cheap (λ r. least u price n r.kind ≤ 16777217001)
    (λ r cheap. omega (arith, least-le_none u price n r.kind, move_cost-le r.kind None)) rows few.costs)
