-- Loads after a push, and what stands beyond the options' room.
use Rattle.std.proofs.Common.{◌≡◌, ℕ, ◌+◌, ◌-◌, ◌<◌, ◌≤◌, ◌≢◌, List, sym, ◌∙◌, subst, inl, inr, arith}
use Rattle.std.proofs.lemmas.Bool.{cases_eq}
use Rattle.cert_check_law.proofs.Sums.{sum_to-le, le-sum_to}
use Rattle.flow_planner_net.specs.Networks.{NetworkParts, IsNetwork, options, capacity}
use Rattle.flow_planner_net.specs.States.{IsCheapest, IsPriced, AreLoads, IsState}
use Rattle.flow_planner_net.proofs.Sums.{sum_to-changed_below}
use Rattle.flow_planner_repair.specs.declared.label.Label.{Label}
use Rattle.flow_planner_repair.specs.Pushes.{IsPushed}
use Rattle.flow_planner_repair.specs.Repairs.{excess}
use Rattle.flow_planner_repair.proofs.PushSteps.{pins_at-here, pins_at-away}
use Rattle.flow_planner_net.proofs.Loads.{loads-le}

module _ (network : NetworkParts) (old new : ℕ → ℕ → ℕ) (price raised load loaded : ℕ → ℕ) (labels : List Label) (start found q : ℕ)
    (start_in : start < options network) (found_in : found < options network) (apart : start ≢ found)
    (state : IsState network old price load) (priced : IsPriced network raised load) (cheapest : IsCheapest network new raised)
    (pushed : IsPushed network old new labels start found q)
    (over : q + capacity network start ≤ load start) (room : load found + q ≤ capacity network found)
    (less : loaded start + q ≡ load start) (more : loaded found ≡ load found + q)
    (others : (o : ℕ) → o ≢ start → o ≢ found → loaded o ≡ load o) where
  relieved_loads : AreLoads network new loaded
  relieved_loads k within =
      let columns = pushed.columns k within in
      let before = state.loads k within in
      elim (cases_eq k start) [
        | inl same ↦
            let away : k ≢ found = λ is. apart (sym same ∙ is) in
            let here : loaded k + q ≡ load k = rw same less in
            omega (arith, pins_at-here start q k same, pins_at-away found q k away)
        | inr other ↦
            elim (cases_eq k found) [
              | inl same ↦
                  let here : loaded k ≡ load k + q = rw same more in
                  omega (arith, pins_at-away start q k other, pins_at-here found q k same)
              | inr another ↦ omega (arith, others k other another, pins_at-away start q k other, pins_at-away found q k another)
            ]
      ]

  relieved_full : (o : ℕ) → o < options network → 0 < raised o → capacity network o ≤ loaded o
  relieved_full o within some =
      let before = priced.full o within some in
      elim (cases_eq o start) [
        | inl same ↦ subst (λ o. capacity network o ≤ loaded o) (sym same) (omega arith)
        | inr other ↦
            elim (cases_eq o found) [
              | inl same ↦ let here : loaded o ≡ load o + q = rw same more in omega arith
              | inr another ↦ omega (arith, others o other another)
            ]
      ]

  pub relieved_state : IsState network new raised loaded
  relieved_state = record {
    cheapest = cheapest;
    priced = record { full = relieved_full; low = priced.low };
    loads = relieved_loads;
    placed = λ g within. pushed.rows g within ∙ state.placed g within;
  }

  pub relieved_fits : (o : ℕ) → o < options network → load o ≤ capacity network o → loaded o ≤ capacity network o
  relieved_fits o within fits =
      elim (cases_eq o start) [
        | inl same ↦ let here : loaded o + q ≡ load o = rw same less in omega arith
        | inr other ↦
            elim (cases_eq o found) [
              | inl same ↦ subst (λ o. loaded o ≤ capacity network o) (sym same) (omega arith)
              | inr another ↦ omega (arith, others o other another)
            ]
      ]

  pub relieved_less : excess network loaded + q ≡ excess network load
  unfolding excess
  relieved_less =
      let changed = sum_to-changed_below (options network) (λ o. load o - capacity network o) (λ o. loaded o - capacity network o) start start_in
      (λ s below ne.
      elim (cases_eq s found) [
        | inl same ↦
            subst (λ s. load s - capacity network s ≡ loaded s - capacity network s) (sym same) (omega arith)
        | inr another ↦ omega (arith, others s ne another)
      ]) in
      omega arith

-- no more pins stand beyond the options' room than there are pins
pub excess-le : (network : NetworkParts) (lawful : IsNetwork network) (used : ℕ → ℕ → ℕ) (price load : ℕ → ℕ) → IsState network used price load
    → excess network load ≤ 16777216
unfolding excess
excess-le network lawful used price load state =
    omega (arith, loads-le network lawful used price load state, sum_to-le (options network) (λ o. load o - capacity network o) load (λ s below. omega arith))

pub excess-some : (network : NetworkParts) (load : ℕ → ℕ) (o : ℕ) → o < options network → capacity network o < load o → 1 ≤ excess network load
unfolding excess
excess-some network load o within over =
    omega (arith, le-sum_to (options network) (λ o. load o - capacity network o) o within)
