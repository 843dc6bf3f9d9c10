-- A state in which no option has more pins than room is shown best by its prices: its cost meets the bound that they give.
use Rattle.std.proofs.Common.{◌≡◌, Bool, true, false, cond, min, Some, None, ℕ, zero, suc, ◌+◌, ◌*◌, ◌<◌, ◌≤◌, refl, sym, ap, ◌∙◌, inl, inr, arith}
use Rattle.std.proofs.lemmas.Bool.{cases_lt}
use Rattle.lb_types.specs.Servers.{has}
use Rattle.lb_types_pins.specs.declared.kind.PinKind.{PinKind}
use Rattle.pin_set.specs.Costs.{sum_to, least, move_cost, held}
use Rattle.cert_check_law.proofs.Sums.{sum_to-none, sum_to-suc, sum_to-same, sum_to-add, least-none, least-suc, least-le_none, least-le_some}
use Rattle.flow_planner_net.specs.Networks.{NetworkParts, options, size, cost, may, count, capacity, group_at}
use Rattle.flow_planner_net.specs.States.{full, IsState, IsCheapest}
use Rattle.flow_planner_net.proofs.Sums.{sum_to-exchange, sum_to-first}
use Rattle.flow_planner_net.proofs.Numbers.{may-none, capacity-first}
use Rattle.flow_planner_net.proofs.Loads.{full-is, load-le}
use Rattle.flow_planner_net.specs.Slackness.{StatesAreShown}

-- a factor of all terms of a sum
pub sum_to-times : (n : ℕ) (f : ℕ → ℕ) (m : ℕ) → sum_to n (λ s. f s * m) ≡ sum_to n f * m
sum_to-times zero f m =
    let none : sum_to 0 f * m ≡ 0 * m = ap (λ k. k * m) (sum_to-none f) in
    omega (arith, sum_to-none (λ s. f s * m))
sum_to-times (suc n) f m =
    let whole : sum_to (suc n) f * m ≡ (sum_to n f + f n) * m = ap (λ k. k * m) (sum_to-suc n f) in
    omega (arith, sum_to-suc n (λ s. f s * m), sum_to-times n f m)

module _ (network : NetworkParts) (used : ℕ → ℕ → ℕ) (price load : ℕ → ℕ) (state : IsState network used price load) where
  -- the cheapest that a group's pins have is what they pay
  paid : (least : ℕ → ℕ) → ((o g : ℕ) → o < options network → g < size network → 0 < used o g → full network price g o ≡ least g)
      → (o g : ℕ) → o < options network → g < size network → used o g * cost network g o + used o g * price o ≡ used o g * least g
  paid least cheapest o g within group =
      elim (cases_lt 0 (used o g)) [
        | inl some ↦
            let e : cost network g o + price o ≡ least g = sym (full-is network price g o) ∙ cheapest o g within group some in
            let all : used o g * (cost network g o + price o) ≡ used o g * least g = ap (λ k. used o g * k) e in
            omega (arith, all)
        | inr none ↦
            let zero_used : used o g ≡ 0 = omega arith in
            rw zero_used (omega arith)
      ]

  -- the prices paid are those of the loads, and where there is a price the load is the capacity
  prices_held : ((o : ℕ) → o < options network → load o ≤ capacity network o)
      → sum_to (size network) (λ g. sum_to (options network) (λ o. used o g * price o)) ≡ sum_to (options network) (λ o. capacity network o * price o)
  prices_held fits =
      sym (sum_to-exchange (options network) (size network) (λ o g. used o g * price o))
      ∙ sum_to-same (options network) (λ o. sum_to (size network) (λ g. used o g * price o)) (λ o. capacity network o * price o) each
    where
      each : (o : ℕ) → o < options network → sum_to (size network) (λ g. used o g * price o) ≡ capacity network o * price o
      each o within =
          elim (cases_lt 0 (price o)) [
            | inl some ↦
                let full_here : load o ≡ capacity network o = omega (arith, state.priced.full o within some, fits o within) in
                let sums = sum_to-times (size network) (used o) (price o) in
                let total : sum_to (size network) (used o) * price o ≡ capacity network o * price o = ap (λ k. k * price o) (sym (state.loads o within) ∙ full_here) in
                sums ∙ total
            | inr none ↦
                let free : price o ≡ 0 = omega arith in
                let sums = sum_to-times (size network) (used o) (price o) in
                let left : sum_to (size network) (used o) * price o ≡ sum_to (size network) (used o) * 0 = ap (λ k. sum_to (size network) (used o) * k) free in
                let right : capacity network o * price o ≡ capacity network o * 0 = ap (λ k. capacity network o * k) free in
                omega (arith, sums, left, right)
          ]

  -- costs and prices together are the least that each pin's options cost
  pub shown : (least : ℕ → ℕ) → ((o g : ℕ) → o < options network → g < size network → 0 < used o g → full network price g o ≡ least g)
      → ((o : ℕ) → o < options network → load o ≤ capacity network o)
      → sum_to (size network) (λ g. sum_to (options network) (λ o. used o g * cost network g o)) + sum_to (options network) (λ o. capacity network o * price o)
      ≡ sum_to (size network) (λ g. count network g * least g)
  shown least cheapest fits =
      let costs : ℕ → ℕ = λ g. sum_to (options network) (λ o. used o g * cost network g o) in
      let prices : ℕ → ℕ = λ g. sum_to (options network) (λ o. used o g * price o) in
      let both = sum_to-add (size network) costs prices in
      let each : (g : ℕ) → g < size network → costs g + prices g ≡ count network g * least g = λ g group.
      sym (sum_to-add (options network) (λ o. used o g * cost network g o) (λ o. used o g * price o))
      ∙ (sum_to-same (options network) (λ o. used o g * cost network g o + used o g * price o) (λ o. used o g * least g) (λ o within. paid least cheapest o g within group)
      ∙ (sum_to-times (options network) (λ o. used o g) (least g) ∙ ap (λ k. k * least g) (state.placed g group))) in
      let all = sum_to-same (size network) (λ g. costs g + prices g) (λ g. count network g * least g) each in
      omega (arith, both, all, prices_held fits)

-- ---- the least of a group's options is what its pins have

cost-none : (network : NetworkParts) (g : ℕ) → cost network g 0 ≡ network.unplaced_cost + move_cost (group_at network g).kind None
unfolding cost
cost-none network g = refl

cost-some : (network : NetworkParts) (g s : ℕ) → cost network g (suc s) ≡ move_cost (group_at network g).kind (Some s)
unfolding cost
cost-some network g s = refl

pub may-some : (network : NetworkParts) (g s : ℕ) → may network g (suc s) ≡ has (group_at network g).kind.permitted s
unfolding may
may-some network g s = refl

-- what is at most every option's cost and price is at most the least of them
pub least-above : (u : ℕ) (price : ℕ → ℕ) (n : ℕ) (kind : PinKind) (x : ℕ) → x ≤ u + move_cost kind None
    → ((s : ℕ) → s < n → has kind.permitted s ≡ true → x ≤ move_cost kind (Some s) + price s) → x ≤ least u price n kind
least-above u price zero kind x none some = omega (arith, least-none u price kind)
least-above u price (suc n) kind x none some =
    let before = least-above u price n kind x none (λ s below permitted. some s (omega arith) permitted) in
    let split : (b : Bool) → has kind.permitted n ≡ b → x ≤ cond b (min (least u price n kind) (move_cost kind (Some n) + price n)) (least u price n kind) =
    λ b. elim b as (λ b. has kind.permitted n ≡ b → x ≤ cond b (min (least u price n kind) (move_cost kind (Some n) + price n)) (least u price n kind)) [
      | true ↦ λ e. omega (arith, some n (omega arith) e)
      | false ↦ λ e. before
    ] in
    rw (least-suc u price n kind) (split (has kind.permitted n) refl)

module _ (network : NetworkParts) (used : ℕ → ℕ → ℕ) (price : ℕ → ℕ) (n : ℕ) (many : options network ≡ n + 1) (free : price 0 ≡ 0) (cheapest : IsCheapest network used price) where
  at_most_full : (o g : ℕ) → o < options network → may network g o ≡ true
      → least network.unplaced_cost (λ s. price (suc s)) n (group_at network g).kind ≤ full network price g o
  at_most_full zero g within allowed =
      omega (arith, least-le_none network.unplaced_cost (λ s. price (suc s)) n (group_at network g).kind, full-is network price g 0, cost-none network g)
  at_most_full (suc s) g within allowed =
      let below : s < n = omega arith in
      omega (
        arith,
        least-le_some network.unplaced_cost (λ s. price (suc s)) n (group_at network g).kind s below (sym (may-some network g s) ∙ allowed),
        full-is network price g (suc s),
        cost-some network g s,
      )

  -- where pins of a group stand, they have the least of their options
  pub least-is : (o g : ℕ) → o < options network → g < size network → 0 < used o g
      → full network price g o ≡ least network.unplaced_cost (λ s. price (suc s)) n (group_at network g).kind
  least-is o g within group some =
      let x = full network price g o in
      let first : 0 < options network = omega arith in
      let none : x ≤ network.unplaced_cost + move_cost (group_at network g).kind None =
      omega (arith, cheapest.least o 0 g within first group some (may-none network g), full-is network price g 0, cost-none network g) in
      let others : (s : ℕ) → s < n → has (group_at network g).kind.permitted s ≡ true → x ≤ move_cost (group_at network g).kind (Some s) + price (suc s) =
      λ s below permitted.
      let inside : suc s < options network = omega arith in
      omega (arith, cheapest.least o (suc s) g within inside group some (may-some network g s ∙ permitted), full-is network price g (suc s), cost-some network g s) in
      omega (arith, at_most_full o g within (cheapest.allowed o g within group some), least-above network.unplaced_cost (λ s. price (suc s)) n (group_at network g).kind x none others)

pub states_are_shown : StatesAreShown
states_are_shown network n used price load lawful many state fits =
    let free : price 0 ≡ 0 =
    elim (cases_lt 0 (price 0)) [
      | inl some ↦ absurd (omega (arith, state.priced.full 0 lawful.some some, load-le network lawful used price load state 0 lawful.some, capacity-first network, lawful.endless))
      | inr none ↦ omega arith
    ] in
    let at_servers : ℕ → ℕ = λ s. price (suc s) in
    let lowest : ℕ → ℕ = λ g. least network.unplaced_cost at_servers n (group_at network g).kind in
    let more : options network ≡ n + 1 = omega arith in
    let whole = shown network used price load state lowest (least-is network used price n more free state.cheapest) fits in
    let paid_for : sum_to (options network) (λ o. capacity network o * price o) ≡ capacity network 0 * price 0 + held n (λ s. capacity network (suc s)) at_servers =
    rw many (sum_to-first n (λ o. capacity network o * price o)) in
    let nothing : capacity network 0 * price 0 ≡ capacity network 0 * 0 = ap (λ k. capacity network 0 * k) free in
    omega (arith, whole, paid_for, nothing)
