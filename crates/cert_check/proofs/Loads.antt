-- How many pins the rows send to a server.
use Rattle.std.proofs.Common.{◌≡◌, Some, None, Option, ℕ, ◌+◌, ◌<◌, ◌≤◌, true, false, cond, List, [], ◌∷◌, length, get_or, take, refl, arith}
use Rattle.std.specs.List.{All}
use Rattle.std.proofs.lemmas.Bool.{ne_eqb}
use Rattle.std.proofs.lemmas.List.Sums.{sum_by-cons, sum_by_more, sum_by_more_le_part}
use Rattle.std.proofs.lemmas.List.Elements.{All-head, All-tail}
use Rattle.lb_types_pins.specs.declared.kind.Row.{Row}
use Rattle.pin_set.specs.Assignments.{is_at}
use Rattle.pin_set.specs.Rows.{rows_pins, rows_load}
use Rattle.dual_cert_plan.specs.declared.server.Server.{Server}
use Rattle.dual_cert_plan.specs.Sheets.{IsListed}

abbrev Listed : List Server → Row → Type 0
Listed servers r = IsListed servers r.new_place

elsewhere : (servers : List Server) (place : Option ℕ) (s : ℕ) → IsListed servers place → length servers ≤ s → is_at s place ≡ false
elsewhere servers None s listed past = refl
elsewhere servers (Some server) s listed past =
    let below : server < length servers = listed server refl in
    ne_eqb server s (λ same. absurd (omega arith))

-- beyond the servers no pins go
pub load-past : (servers : List Server) (rows : List Row) (s : ℕ) → All (λ r. IsListed servers r.new_place) rows → length servers ≤ s → rows_load rows s ≡ 0
load-past servers [] s listed past = refl
load-past servers (r ∷ rows) s listed past =
    let here = elsewhere servers r.new_place s (All-head (Listed servers) r rows listed) past in
    let none : cond (is_at s r.new_place) r.count 0 ≡ 0 = rw here refl in
    omega (arith, sum_by-cons (λ (q : Row). cond (is_at s q.new_place) q.count 0) r rows, load-past servers rows s (All-tail (Listed servers) r rows listed) past)

counted : (s : ℕ) (r : Row) → cond (is_at s r.new_place) r.count 0 ≤ r.count
counted s r = elim (is_at s r.new_place) as (λ b. cond b r.count 0 ≤ r.count) [ true ↦ omega arith | false ↦ omega arith ]

-- a server's pins so far and those of the next row are no more than all pins
pub load_more-le : (rows : List Row) (i : ℕ) (row : Row) (s : ℕ) → i < length rows → row ≡ get_or rows i row → rows_load (take i rows) s + row.count ≤ rows_pins rows
load_more-le rows i row s within is =
    let sums = sum_by_more_le_part (λ (r : Row). cond (is_at s r.new_place) r.count 0) (λ (r : Row). r.count) rows i row within (λ r. counted s r) in
    let P : Row → Type 0 = λ r. rows_load (take i rows) s + r.count ≤ rows_pins rows in
    rw is sums

-- one row more
pub load_more : (rows : List Row) (i : ℕ) (row : Row) (s : ℕ) → i < length rows → row ≡ get_or rows i row
    → rows_load (take (i + 1) rows) s ≡ rows_load (take i rows) s + cond (is_at s row.new_place) row.count 0
load_more rows i row s within is =
    let more = sum_by_more (λ (r : Row). cond (is_at s r.new_place) r.count 0) rows i row within in
    rw is more
