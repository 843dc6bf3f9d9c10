-- Sums over the rows of a state: loads, costs, and the least that each pin's options cost.
use Rattle.std.proofs.Common.{◌≡◌, Option, ℕ, zero, suc, ◌*◌, ◌<◌, ◌≤◌, ◌≢◌, Bool, true, false, cond, refl, sym, ap, ◌∙◌, arith}
use Rattle.std.specs.List.{sum_by}
use Rattle.std.proofs.lemmas.Bool.{eq-eqb, ne_eqb}
use Rattle.lb_types_pins.specs.declared.kind.PinKind.{PinKind}
use Rattle.lb_types_pins.specs.declared.kind.Group.{Group}
use Rattle.lb_types_pins.specs.declared.kind.Row.{Row}
use Rattle.pin_set.specs.Costs.{sum_to, option_cost, least}
use Rattle.pin_set.specs.Assignments.{is_at}
use Rattle.pin_set.specs.Rows.{rows_pins, rows_load, rows_cost, rows_least}
use Rattle.cert_check_law.proofs.Sums.{sum_to-same, sum_to-zero, sum_to-changed}
use Rattle.flow_planner_net.specs.Networks.{NetworkParts, options, size, no_group, place_of, group_at, cost, count}
use Rattle.flow_planner_net.specs.States.{AllPlaced, AreLoads}
use Rattle.flow_planner_net.proofs.Sums.{sum_to-list}
use Rattle.flow_planner_net.specs.RowLists.{rows_of}
use Rattle.flow_planner_net.proofs.RowSums.{sums_over_rows}
use Rattle.flow_planner_net.specs.Slackness.{cost_of, least_of}
use Rattle.flow_planner_net.proofs.Slackness.{sum_to-times}

-- a sum of which one term alone counts
sum_to-one : (n : ℕ) (f : ℕ → ℕ) (k : ℕ) → k < n → ((o : ℕ) → o ≢ k → f o ≡ 0) → sum_to n f ≡ f k
sum_to-one n f k below others =
    let none = sum_to-zero n (λ o. 0) (λ o inside. refl) in
    omega (arith, none, sum_to-changed n f (λ o. 0) k below others)

elsewhere : (s o n : ℕ) → o ≢ suc s → cond (is_at s (place_of o)) n 0 ≡ 0
elsewhere s zero n ne = refl
elsewhere s (suc t) n ne =
    let other : t ≢ s = λ same. ne (omega arith) in
    rw (ne_eqb t s other) refl

there : (s n : ℕ) → cond (is_at s (place_of (suc s))) n 0 ≡ n
there s n = rw (eq-eqb s s refl) refl

module _ (network : NetworkParts) (used : ℕ → ℕ → ℕ) where
  -- the rows send to a server what stands at its option
  pub load-there : (load : ℕ → ℕ) → AreLoads network used load → (s : ℕ) → suc s < options network → rows_load (rows_of network used) s ≡ load (suc s)
  load-there load loads s within =
      sums_over_rows network used (λ r. cond (is_at s r.new_place) r.count 0) (λ g o none. counted g o none (is_at s (place_of o)))
      ∙ (sum_to-same (size network) (λ g. sum_to (options network) (λ o. cond (is_at s (place_of o)) (used o g) 0)) (used (suc s))
      (λ g inside. sum_to-one (options network) (λ o. cond (is_at s (place_of o)) (used o g) 0) (suc s) within (λ o ne. elsewhere s o (used o g) ne)
      ∙ there s (used (suc s) g))
      ∙ sym (loads (suc s) within))
    where
      counted : (g o : ℕ) → used o g ≡ 0 → (b : Bool) → cond b (used o g) 0 ≡ 0
      counted g o none true = none
      counted g o none false = refl

  -- beyond the servers the rows send nothing
  pub load-past : (s : ℕ) → options network ≤ suc s → rows_load (rows_of network used) s ≡ 0
  load-past s past =
      sums_over_rows network used (λ r. cond (is_at s r.new_place) r.count 0) (λ g o none. counted g o none (is_at s (place_of o)))
      ∙ sum_to-zero (size network) (λ g. sum_to (options network) (λ o. cond (is_at s (place_of o)) (used o g) 0))
      (λ g inside. sum_to-zero (options network) (λ o. cond (is_at s (place_of o)) (used o g) 0) (λ o below. elsewhere s o (used o g) (λ same. absurd (omega arith))))
    where
      counted : (g o : ℕ) → used o g ≡ 0 → (b : Bool) → cond b (used o g) 0 ≡ 0
      counted g o none true = none
      counted g o none false = refl

  weighed-none : (f : PinKind → Option ℕ → ℕ) (g o : ℕ) → used o g ≡ 0 → used o g * f (group_at network g).kind (place_of o) ≡ 0
  weighed-none f g o none = rw none (omega arith)

  cost-is : (g o : ℕ) → option_cost network.unplaced_cost (group_at network g).kind (place_of o) ≡ cost network g o
  unfolding cost
  cost-is g o = refl

  -- what the rows cost is what the pins cost where they stand
  pub rows_cost-is : rows_cost network.unplaced_cost (rows_of network used) ≡ cost_of network used
  rows_cost-is =
      sums_over_rows network used (λ r. r.count * option_cost network.unplaced_cost r.kind r.new_place) (weighed-none (option_cost network.unplaced_cost))
      ∙ sum_to-same (size network)
      (λ g. sum_to (options network) (λ o. used o g * option_cost network.unplaced_cost (group_at network g).kind (place_of o)))
      (λ g. sum_to (options network) (λ o. used o g * cost network g o))
      (λ g inside. sum_to-same (options network)
      (λ o. used o g * option_cost network.unplaced_cost (group_at network g).kind (place_of o))
      (λ o. used o g * cost network g o)
      (λ o below. ap (λ k. used o g * k) (cost-is g o)))

  -- a sum over the rows' pins by their kind is one over the groups' pins
  pub rows_by_kind : AllPlaced network used → (f : PinKind → ℕ)
      → sum_by (λ (r : Row). r.count * f r.kind) (rows_of network used) ≡ sum_to (size network) (λ g. count network g * f (group_at network g).kind)
  rows_by_kind placed f =
      sums_over_rows network used (λ (r : Row). r.count * f r.kind) (weighed-none (λ kind place. f kind))
      ∙ sum_to-same (size network)
      (λ g. sum_to (options network) (λ o. used o g * f (group_at network g).kind))
      (λ g. count network g * f (group_at network g).kind)
      (λ g inside. sum_to-times (options network) (λ o. used o g) (f (group_at network g).kind) ∙ ap (λ k. k * f (group_at network g).kind) (placed g inside))

  pub rows_least-is : AllPlaced network used → (price : ℕ → ℕ) (n : ℕ) → rows_least network.unplaced_cost price n (rows_of network used) ≡ least_of network price n
  rows_least-is placed price n = rows_by_kind placed (least network.unplaced_cost price n)

  groups-listed : (f : PinKind → ℕ) → sum_to (size network) (λ g. count network g * f (group_at network g).kind) ≡ sum_by (λ (g : Group). g.count * f g.kind) network.groups
  unfolding count
  groups-listed f = sum_to-list (λ (g : Group). g.count * f g.kind) no_group network.groups

  -- all moves of the rows' pins cost what all moves of the groups' pins cost
  pub rows_moves-is : AllPlaced network used → sum_by (λ (r : Row). r.count * r.kind.cost) (rows_of network used) ≡ sum_by (λ (g : Group). g.count * g.kind.cost) network.groups
  rows_moves-is placed = rows_by_kind placed (λ kind. kind.cost) ∙ groups-listed (λ kind. kind.cost)

  counts-listed : sum_to (size network) (count network) ≡ sum_by (λ (g : Group). g.count) network.groups
  unfolding count
  counts-listed = sum_to-list (λ (g : Group). g.count) no_group network.groups

  pub rows_pins-is : AllPlaced network used → rows_pins (rows_of network used) ≡ sum_by (λ (g : Group). g.count) network.groups
  rows_pins-is placed =
      sums_over_rows network used (λ (r : Row). r.count) (λ g o none. none)
      ∙ (sum_to-same (size network) (λ g. sum_to (options network) (λ o. used o g)) (count network) placed ∙ counts-listed)
