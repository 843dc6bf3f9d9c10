-- What holds of blank lists, and of the pins beyond the room after the start.
use Rattle.std.proofs.Common.{◌≡◌, get_or, replicate, ℕ, ◌+◌, ◌-◌, ◌*◌, ◌^◌, ◌<◌, ◌≤◌, List, length, ap, ◌∙◌, inl, inr, arith}
use Rattle.std.proofs.lemmas.Nat.{mul-le}
use Rattle.std.proofs.lemmas.Bool.{cases_lt}
use Rattle.std.proofs.lemmas.List.{get_or_past, get_or-replicate, length-replicate}
use Rattle.pin_set.specs.Costs.{sum_to}
use Rattle.cert_check_law.proofs.Sums.{sum_to-same, sum_to-le}
use Rattle.flow_planner_net.specs.Networks.{NetworkParts, IsNetwork, options, size, count, capacity}
use Rattle.flow_planner_net.specs.States.{used_of, at, IsState}
use Rattle.flow_planner_net.proofs.Sums.{sum_to-exchange}
use Rattle.flow_planner_repair.specs.Repairs.{excess, most_looks}
use Rattle.flow_planner_net.proofs.Loads.{full-is}

noughts : (n i : ℕ) → ◌≡◌ {A = ℕ} (get_or (replicate n 0) i 0) 0
noughts n i =
    elim (cases_lt i n) [
      | inl within ↦ get_or-replicate n i 0 0 within
      | inr past ↦ get_or_past (replicate n 0) i 0 (omega (arith, length-replicate {A = ℕ} n 0))
    ]

pub blank-used : (n width : ℕ) (counts : List ℕ) → counts ≡ replicate n 0 → (o g : ℕ) → used_of width counts o g ≡ 0
unfolding used_of
blank-used n width counts blank o g = ap (λ (xs : List ℕ). get_or xs (o * width + g) 0) blank ∙ noughts n (o * width + g)

pub blank-at : (n : ℕ) (numbers : List ℕ) → numbers ≡ replicate n 0 → (o : ℕ) → at numbers o ≡ 0
unfolding at
blank-at n numbers blank o = ap (λ (xs : List ℕ). get_or xs o 0) blank ∙ noughts n o

pub blank-len : (n : ℕ) (numbers : List ℕ) → numbers ≡ replicate n 0 → length numbers ≡ n
blank-len n numbers blank = ap length blank ∙ length-replicate n 0

-- prices that are all 0 are no prices
pub state-free : (network : NetworkParts) (used : ℕ → ℕ → ℕ) (price load : ℕ → ℕ) → ((o : ℕ) → price o ≡ 0) → IsState network used (λ option. 0) load
    → IsState network used price load
state-free network used price load free state = record {
  cheapest = record {
    allowed = state.cheapest.allowed;
    least = λ o k g within inside group some allowed.
        omega (
          arith,
          state.cheapest.least o k g within inside group some allowed,
          full-is network (λ option. 0) g o,
          full-is network (λ option. 0) g k,
          full-is network price g o,
          full-is network price g k,
          free o,
          free k,
        );
  };
  priced = record {
    full = λ o within some. absurd (omega (arith, free o));
    low = λ o within. omega (arith, free o);
  };
  loads = state.loads;
  placed = state.placed;
}

-- no more pins stand beyond the options' room than there are pins
pub excess-pins : (network : NetworkParts) (used : ℕ → ℕ → ℕ) (price load : ℕ → ℕ) → IsState network used price load
    → excess network load ≤ sum_to (size network) (count network)
unfolding excess
excess-pins network used price load state =
    let by_option = sum_to-same (options network) load (λ o. sum_to (size network) (used o)) state.loads in
    let by_group = sum_to-same (size network) (λ g. sum_to (options network) (λ o. used o g)) (count network) state.placed in
    omega (
      arith,
      by_option,
      by_group,
      sum_to-exchange (options network) (size network) used,
      sum_to-le (options network) (λ o. load o - capacity network o) load (λ s below. omega arith),
    )

-- the looks of all pushes can be counted
pub looks-fit : (network : NetworkParts) → IsNetwork network → (n : ℕ) → n ≤ 16777216 → n * most_looks network < 2 ^ 63
looks-fit network lawful n few =
    let groups = lawful.few_groups in
    let table = mul-le (size network + 1) (options network) 16777217 129 (omega (arith, groups)) lawful.few_options in
    let search = mul-le (options network) ((size network + 1) * options network) 129 (16777217 * 129) lawful.few_options table in
    let all = mul-le n (most_looks network) 16777216 (129 * (16777217 * 129)) few search in
    omega (arith, all)
