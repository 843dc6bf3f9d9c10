-- Prices raised after a search: the state stays one, and the way back costs nothing.
use Rattle.std.proofs.Common.{◌≡◌, ℕ, ◌+◌, ◌-◌, ◌<◌, ◌≤◌, min, List, refl, ◌∙◌, inl, inr, arith}
use Rattle.std.proofs.lemmas.Bool.{cases_lt, lt-ltb, le-ltb}
use Rattle.flow_planner_net.specs.Networks.{NetworkParts, IsNetwork, options, size, cost, limit}
use Rattle.flow_planner_net.specs.States.{IsCheapest, IsPriced, IsState}
use Rattle.flow_planner_net.proofs.Numbers.{may-none, cost-le, capacity-first}
use Rattle.flow_planner_net.proofs.Loads.{full-is, load-le}
use Rattle.flow_planner_repair.specs.declared.label.Label.{Label}
use Rattle.flow_planner_repair.specs.Searches.{dist, source, via, rank, IsFound}
use Rattle.flow_planner_repair.specs.Pushes.{raised, IsTrail, IsTight}
use Rattle.flow_planner_repair.proofs.StateSteps.{first_open}

pub raised-near : (top reach d p : ℕ) → d < reach → raised top reach d p ≡ min top (p + (reach - d))
raised-near top reach d p near = rw (lt-ltb d reach near) refl

pub raised-away : (top reach d p : ℕ) → reach ≤ d → raised top reach d p ≡ p
raised-away top reach d p away = rw (le-ltb d reach away) refl

module _ (network : NetworkParts) (lawful : IsNetwork network) (used : ℕ → ℕ → ℕ) (price load : ℕ → ℕ) (state : IsState network used price load)
    (labels : List Label) (start found settled : ℕ) (end : IsFound network used price load labels start found settled)
    (new : ℕ → ℕ) (change : (o : ℕ) → o < options network → new o ≡ raised (limit network) (dist labels found) (dist labels o) (price o)) where
  near-is : (o : ℕ) → o < options network → dist labels o < dist labels found → new o ≡ min (limit network) (price o + (dist labels found - dist labels o))
  near-is o within near = change o within ∙ raised-near (limit network) (dist labels found) (dist labels o) (price o) near

  away-is : (o : ℕ) → o < options network → dist labels found ≤ dist labels o → new o ≡ price o
  away-is o within away = change o within ∙ raised-away (limit network) (dist labels found) (dist labels o) (price o) away

  first_away : dist labels found ≤ dist labels 0
  first_away = end.nearest.least 0 lawful.some (first_open network lawful used price load state labels start settled end.search)

  first_free : price 0 ≡ 0
  first_free =
      elim (cases_lt 0 (price 0)) [
        | inl some ↦ absurd (omega (arith, state.priced.full 0 lawful.some some, load-le network lawful used price load state 0 lawful.some, capacity-first network, lawful.endless))
        | inr none ↦ omega arith
      ]

  near_settled : (o : ℕ) → o < options network → dist labels o < dist labels found → rank labels o < options network
  near_settled o within near =
      elim (cases_lt (rank labels o) (options network)) [
        | inl now ↦ now
        | inr after ↦ absurd (omega (arith, end.nearest.least o within after))
      ]

  -- where pins stand no price is cut at the limit
  uncut : (o g : ℕ) → o < options network → g < size network → 0 < used o g → dist labels o < dist labels found
      → cost network g o + price o + (dist labels found - dist labels o) ≤ limit network
  uncut o g within group some near =
      omega (
        arith,
        end.search.relaxed o within (near_settled o within near) g 0 group lawful.some some (may-none network g),
        full-is network price g o,
        full-is network price g 0,
        first_free,
        first_away,
        cost-le network lawful g 0 group,
      )

  at_most : (o : ℕ) → o < options network → dist labels o ≤ dist labels found → new o ≤ price o + (dist labels found - dist labels o)
  at_most o within near =
      elim (cases_lt (dist labels o) (dist labels found)) [
        | inl less ↦ omega (arith, near-is o within less)
        | inr same ↦ omega (arith, away-is o within same)
      ]

  at_least : (o : ℕ) → o < options network → price o ≤ new o
  at_least o within =
      elim (cases_lt (dist labels o) (dist labels found)) [
        | inl less ↦ omega (arith, near-is o within less, state.priced.low o within)
        | inr same ↦ omega (arith, away-is o within same)
      ]

  pub raised_cheapest : IsCheapest network used new
  raised_cheapest = record {
    allowed = state.cheapest.allowed;
    least = λ o k g within target group some allowed.
        let before = state.cheapest.least o k g within target group some allowed in
        let full_o = full-is network price g o in
        let full_k = full-is network price g k in
        let new_o = full-is network new g o in
        let new_k = full-is network new g k in
        elim (cases_lt (dist labels o) (dist labels found)) [
          | inl near ↦
              let low = uncut o g within group some near in
              let most = at_most o within (omega arith) in
              let relaxed = end.search.relaxed o within (near_settled o within near) g k group target some allowed in
              elim (cases_lt (dist labels k) (dist labels found)) [
                | inl near_k ↦ omega (arith, near-is k target near_k)
                | inr away_k ↦ omega (arith, away-is k target away_k)
              ]
          | inr away ↦ omega (arith, away-is o within away, at_least k target)
        ];
  }

  pub raised_priced : IsPriced network new load
  raised_priced = record {
    full = λ o within some.
        elim (cases_lt (dist labels o) (dist labels found)) [
          | inl near ↦ end.search.busy o within (near_settled o within near)
          | inr away ↦ state.priced.full o within (omega (arith, away-is o within away))
        ];
    low = λ o within.
        elim (cases_lt (dist labels o) (dist labels found)) [
          | inl near ↦ omega (arith, near-is o within near)
          | inr away ↦ omega (arith, away-is o within away, state.priced.low o within)
        ];
  }

  pub raised_trail : IsTrail network used labels start (dist labels found)
  raised_trail o within ne near =
      let arc = end.search.reached o within ne (omega (arith, end.reach)) in
      let up = state.cheapest.least (source labels o) o (via labels o) arc.source_in within arc.via_in arc.carried arc.allowed in
      record {
        source_in = arc.source_in;
        via_in = arc.via_in;
        earlier = arc.earlier;
        nearer = omega (arith, arc.exact);
        carried = arc.carried;
        allowed = arc.allowed;
      }

  pub raised_tight : IsTight network new labels start (dist labels found)
  raised_tight o within ne near =
      let arc = end.search.reached o within ne (omega (arith, end.reach)) in
      let h = source labels o in
      let v = via labels o in
      let back = raised_trail o within ne near in
      let most = at_most o within near in
      let full_o = full-is network price v o in
      let full_h = full-is network price v h in
      let new_o = full-is network new v o in
      let new_h = full-is network new v h in
      elim (cases_lt (dist labels h) (dist labels found)) [
        | inl less ↦ omega (arith, arc.exact, near-is h arc.source_in less, uncut h v arc.source_in arc.via_in arc.carried less)
        | inr same ↦ omega (arith, arc.exact, back.nearer, away-is h arc.source_in same)
      ]
