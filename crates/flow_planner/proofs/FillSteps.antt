-- Pins put at options of least cost, one group after another.
use Rattle.std.proofs.Common.{◌≡◌, ℕ, ◌+◌, ◌<◌, ◌≤◌, ◌≢◌, sym, ◌∙◌, subst, inl, inr, arith}
use Rattle.std.proofs.lemmas.Bool.{cases_eq, cases_lt}
use Rattle.pin_set.specs.Costs.{sum_to}
use Rattle.cert_check_law.proofs.Sums.{sum_to-same, sum_to-zero, sum_to-le, le-sum_to}
use Rattle.flow_planner_net.specs.Networks.{NetworkParts, IsNetwork, options, size, count}
use Rattle.flow_planner_net.specs.States.{AreLoads, IsState}
use Rattle.flow_planner_net.proofs.Sums.{sum_to-changed_below}
use Rattle.flow_planner_net.proofs.Numbers.{pins-le}
use Rattle.flow_planner_net.proofs.Tables.{IsSet}
use Rattle.flow_planner_net.proofs.Loads.{full-is}
use Rattle.flow_planner.specs.Fillings.{IsHome, IsFilling, placed_of}

-- no option holds more pins than there are
pub filling-le : (network : NetworkParts) → IsNetwork network → (used : ℕ → ℕ → ℕ) (load : ℕ → ℕ) → IsFilling network used load
    → (o : ℕ) → o < options network → load o ≤ 16777216
filling-le network lawful used load filling o within =
    let each = sum_to-le (size network) (used o) (count network)
    (λ g below. omega (arith, le-sum_to (options network) (λ k. used k g) o within, filling.placed g below)) in
    omega (arith, each, filling.loads o within, pins-le network lawful)

module _ (network : NetworkParts) (old new : ℕ → ℕ → ℕ) (load loaded : ℕ → ℕ) (group option q n : ℕ) (group_in : group < size network) (option_in : option < options network)
    (filling : IsFilling network old load) (home : 0 < q → IsHome network group option) (few : placed_of network old group + q ≤ count network group)
    (changed : IsSet (size network) old new option group n) (more : n ≡ old option group + q)
    (here : loaded option ≡ load option + q) (others : (k : ℕ) → k ≢ option → loaded k ≡ load k) where
  pub put_placed : placed_of network new group ≡ placed_of network old group + q
  put_placed =
      let sums = sum_to-changed_below (options network) (λ o. old o group) (λ o. new o group) option option_in
      (λ o within ne. sym (changed.other_options o group group_in ne)) in
      omega (arith, sums, changed.here)

  pub put_others : (g : ℕ) → g < size network → g ≢ group → placed_of network new g ≡ placed_of network old g
  put_others g within ne = sum_to-same (options network) (λ o. new o g) (λ o. old o g) (λ o _. changed.other_groups o g within ne)

  put_home : (o g : ℕ) → o < options network → g < size network → 0 < new o g → IsHome network g o
  put_home o g within below some =
      elim (cases_eq g group) [
        | inr other ↦ filling.home o g within below (omega (arith, changed.other_groups o g below other))
        | inl same ↦
            elim (cases_eq o option) [
              | inr another ↦ filling.home o g within below (omega (arith, changed.other_options o g below another))
              | inl there ↦
                  elim (cases_lt 0 q) [
                    | inl pins ↦ rw (same, there) (home pins)
                    | inr none ↦
                        let value : new o g ≡ old o g + q = rw (same, there) (changed.here ∙ more) in
                        filling.home o g within below (omega arith)
                  ]
            ]
      ]

  put_loads : AreLoads network new loaded
  put_loads o within =
      elim (cases_eq o option) [
        | inl same ↦
            let sums = sum_to-changed_below (size network) (old option) (new option) group group_in
            (λ g below ne. sym (changed.other_groups option g below ne)) in
            let now : loaded option ≡ sum_to (size network) (new option) = omega (arith, sums, changed.here, filling.loads option option_in) in
            subst (λ o. loaded o ≡ sum_to (size network) (new o)) (sym same) now
        | inr other ↦
            omega (arith, others o other, filling.loads o within, sum_to-same (size network) (new o) (old o) (λ g below. changed.other_options o g below other))
      ]

  pub put_filling : IsFilling network new loaded
  put_filling = record {
    home = put_home;
    loads = put_loads;
    placed = λ g within.
        elim (cases_eq g group) [
          | inl same ↦ subst (λ g. placed_of network new g ≤ count network g) (sym same) (omega (arith, put_placed))
          | inr other ↦ omega (arith, put_others g within other, filling.placed g within)
        ];
  }

-- where all pins stand at options of least cost, this is a state at prices of 0
pub state_from : (network : NetworkParts) (used : ℕ → ℕ → ℕ) (load : ℕ → ℕ) → IsFilling network used load
    → ((g : ℕ) → g < size network → placed_of network used g ≡ count network g) → IsState network used (λ option. 0) load
state_from network used load filling placed = record {
  cheapest = record {
    allowed = λ o g within below some. (filling.home o g within below some).allowed;
    least = λ o k g within target below some allowed.
        omega (arith, (filling.home o g within below some).least k target allowed, full-is network (λ option. 0) g o, full-is network (λ option. 0) g k);
  };
  priced = record {
    full = λ o within some. absurd (omega arith);
    low = λ o within. omega arith;
  };
  loads = filling.loads;
  placed = placed;
}

-- nothing is placed yet
pub filling_none : (network : NetworkParts) (used : ℕ → ℕ → ℕ) (load : ℕ → ℕ) → ((o g : ℕ) → o < options network → g < size network → used o g ≡ 0)
    → ((o : ℕ) → o < options network → load o ≡ 0) → IsFilling network used load
filling_none network used load empty idle = record {
  home = λ o g within below some. absurd (omega (arith, empty o g within below));
  loads = λ o within. omega (arith, idle o within, sum_to-zero (size network) (used o) (λ g below. empty o g within below));
  placed = λ g below. omega (arith, sum_to-zero (options network) (λ o. used o g) (λ o within. empty o g within below));
}
