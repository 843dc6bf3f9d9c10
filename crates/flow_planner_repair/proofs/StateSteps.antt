-- What a state says of loads, and what that says of a search.
use Rattle.std.proofs.Common.{◌≡◌, ℕ, ◌+◌, ◌<◌, ◌≤◌, ◌≢◌, Option, Some, List, subst, inl, inr, arith}
use Rattle.std.proofs.lemmas.Bool.{cases_lt}
use Rattle.cert_check_law.proofs.Sums.{sum_to-zero}
use Rattle.flow_planner_net.specs.Networks.{NetworkParts, IsNetwork, options, size, capacity, limit}
use Rattle.flow_planner_net.specs.States.{full, IsState}
use Rattle.flow_planner_net.proofs.Sums.{sum_to-some}
use Rattle.flow_planner_net.proofs.Numbers.{may-none, cost-le, capacity-first}
use Rattle.flow_planner_net.proofs.Loads.{full-is, load-le}
use Rattle.flow_planner_repair.specs.declared.label.Label.{Label}
use Rattle.flow_planner_repair.specs.LeastArcs.{IsLeast, AreLeast, least_of}
use Rattle.flow_planner_repair.specs.Searches.{dist, rank, far, mark, IsSearch, IsNearest, IsUphill, IsRanked, IsFollowed}
use Rattle.flow_planner_repair.proofs.SearchSteps.{IsSettling, settled_more}

module _ (network : NetworkParts) (lawful : IsNetwork network) (used : ℕ → ℕ → ℕ) (price load : ℕ → ℕ) (state : IsState network used price load) where
  -- where pins stand, some group's do
  pub has_group : (o : ℕ) → o < options network → 0 < load o → (g : ℕ) × (g < size network) × (0 < used o g)
  has_group o within some = sum_to-some (size network) (used o) (omega (arith, state.loads o within))

  pub full-le : (g o : ℕ) → o < options network → g < size network → full network price g o ≤ limit network + limit network
  full-le g o within group = omega (arith, full-is network price g o, cost-le network lawful g o group, state.priced.low o within)

  module _ (labels : List Label) (start settled : ℕ) (search : IsSearch network used price load labels start settled) where
    -- option 0 is never settled, since it has room for all pins
    pub first_open : options network ≤ rank labels 0
    first_open =
        elim (cases_lt (rank labels 0) (options network)) [
          | inl now ↦ absurd (omega (arith, search.busy 0 lawful.some now, load-le network lawful used price load state 0 lawful.some, capacity-first network, lawful.endless))
          | inr after ↦ after
        ]

    -- the nearest option is reached
    pub nearest_near : (here : ℕ) → start < options network → 0 < load start → IsNearest network labels here → dist labels here < far
    nearest_near here within some nearest =
        elim (cases_lt (rank labels start) (options network)) [
          | inl now ↦
              let group = has_group start within some in
              let low = lawful.low in
              omega (
                arith,
                search.relaxed start within now group.0 0 group.1 lawful.some group.2 (may-none network group.0),
                search.starts,
                full-le group.0 0 lawful.some group.1,
                nearest.least 0 lawful.some first_open,
              )
          | inr after ↦ omega (arith, nearest.least start within after, search.starts)
        ]

  -- least arcs aren't downhill
  pub least_uphill : (least : List (Option ℕ)) (here : ℕ) → here < options network → AreLeast network used (size network) here least
      → (target group : ℕ) → target < options network → least_of (options network) least here target ≡ Some group → IsUphill network price here target group
  least_uphill least here within known target group inside is =
      let arc = subst (λ a. IsLeast network used (size network) here target a) is (known target inside) in
      record { there = arc.there; up = state.cheapest.least here target group within inside arc.there arc.carried arc.allowed }

-- a search at its beginning
pub search_start : (network : NetworkParts) (used : ℕ → ℕ → ℕ) (price load : ℕ → ℕ) (labels : List Label) (start : ℕ) → dist labels start ≡ 0
    → ((o : ℕ) → o < options network → o ≢ start → dist labels o ≡ far) → ((o : ℕ) → o < options network → rank labels o ≡ options network)
    → IsSearch network used price load labels start 0
search_start network used price load labels start zero away open_all = record {
  starts = zero;
  near = λ o within now. absurd (omega (arith, open_all o within));
  order = λ o k within _ now _. absurd (omega (arith, open_all o within));
  reached = λ o within ne near. absurd (omega (arith, away o within ne));
  relaxed = λ o within now. absurd (omega (arith, open_all o within));
  below = λ o within now. absurd (omega (arith, open_all o within));
  ranks = λ o within. omega (arith, open_all o within);
  counted = sum_to-zero (options network) (mark (options network) labels) (λ o within. omega (arith, open_all o within));
  busy = λ o within now. absurd (omega (arith, open_all o within));
}

-- one option more is settled
pub search_more : (network : NetworkParts) → IsNetwork network → (used : ℕ → ℕ → ℕ) (price load : ℕ → ℕ) → IsState network used price load
    → (old ranked new : List Label) (start settled here : ℕ) (least : List (Option ℕ)) → start < options network → 0 < load start
    → IsSearch network used price load old start settled → IsNearest network old here → capacity network here ≤ load here → IsRanked old ranked here settled
    → AreLeast network used (size network) here least
    → ((o : ℕ) → o < options network → IsFollowed network price (least_of (options network) least here o) here ranked new o)
    → IsSearch network used price load new start (settled + 1)
search_more network lawful used price load state old ranked new start settled here least start_in some search nearest busy marked known followed =
    let step : IsSettling network used price load old ranked new start settled here (least_of (options network) least here) = record {
      cheapest = state.cheapest;
      start_in = start_in;
      search = search;
      nearest = nearest;
      near = nearest_near network lawful used price load state old start settled search here start_in some nearest;
      busy = busy;
      marked = marked;
      least = known;
      followed = followed;
    } in
    settled_more network used price load old ranked new start settled here (least_of (options network) least here) step
