-- One arc of a push along the way back, after the arcs before it.
use Rattle.std.proofs.Common.{◌≡◌, ℕ, ◌+◌, ◌<◌, ◌≤◌, ◌≢◌, List, refl, sym, ap, ◌∙◌, inl, inr, arith}
use Rattle.std.proofs.lemmas.Bool.{cases_eq, eq-eqb, ne_eqb}
use Rattle.pin_set.specs.Costs.{sum_to}
use Rattle.flow_planner_net.specs.Networks.{NetworkParts, IsNetwork, options, size}
use Rattle.flow_planner_net.specs.States.{full, AllPlaced, IsCheapest}
use Rattle.flow_planner_net.specs.Moves.{IsMoved}
use Rattle.flow_planner_net.proofs.Sums.{two-le-sum_to}
use Rattle.flow_planner_net.proofs.Numbers.{count-le}
use Rattle.flow_planner_net.proofs.Moves.{moved_rows, moved-source, moved-target, moved-other, moved_cheapest}
use Rattle.flow_planner_repair.specs.declared.label.Label.{Label}
use Rattle.flow_planner_repair.specs.Searches.{dist, source, via, rank}
use Rattle.flow_planner_repair.specs.Pushes.{pins_at, IsTied, IsTrail, IsTight, IsPushed}

pub pins_at-here : (here q o : ℕ) → o ≡ here → pins_at here q o ≡ q
pins_at-here here q o same = rw (eq-eqb o here same) refl

pub pins_at-away : (here q o : ℕ) → o ≢ here → pins_at here q o ≡ 0
pins_at-away here q o ne = rw (ne_eqb o here ne) refl

-- nothing is moved from the start to itself
pub pushed_none : (network : NetworkParts) (used : ℕ → ℕ → ℕ) (labels : List Label) (start o q : ℕ) → o ≡ start → IsPushed network used used labels start o q
pushed_none network used labels start o q same = record {
  rows = λ g within. refl;
  columns = λ k within. rw same refl;
  above = λ k g within group later. refl;
  grown = λ g within. omega arith;
}

module _ (network : NetworkParts) (old middle new : ℕ → ℕ → ℕ) (labels : List Label) (start o before group q : ℕ)
    (o_in : o < options network) (tied : IsTied network old labels o before group)
    (first : IsPushed network old middle labels start before q) (move : IsMoved (size network) middle new before o group q) where
  -- one arc more
  pub pushed_more : IsPushed network old new labels start o q
  pushed_more = record {
    rows = λ g within.
        moved_rows (size network) middle new before o group q tied.via_in move (options network) tied.source_in o_in g within ∙ first.rows g within;
    columns = λ k within.
        let inner = first.columns k within in
        elim (cases_eq k before) [
          | inl same ↦
              let away : k ≢ o = λ is. move.apart (sym same ∙ is) in
              let moved = moved-source (size network) middle new before o group q tied.via_in move in
              let here : sum_to (size network) (new k) + q ≡ sum_to (size network) (middle k) = rw same moved in
              omega (arith, pins_at-here before q k same, pins_at-away o q k away)
          | inr other ↦
              elim (cases_eq k o) [
                | inl same ↦
                    let moved = moved-target (size network) middle new before o group q tied.via_in move in
                    let here : sum_to (size network) (new k) ≡ sum_to (size network) (middle k) + q = rw same moved in
                    omega (arith, pins_at-away before q k other, pins_at-here o q k same)
                | inr another ↦
                    omega (arith, moved-other (size network) middle new before o group q tied.via_in move k other another, pins_at-away before q k other, pins_at-away o q k another)
              ]
        ];
    above = λ k g within inside later.
        let apart : k ≢ o = λ same. absurd (omega (arith, ap (rank labels) same)) in
        let other : k ≢ before = λ same. absurd (omega (arith, ap (rank labels) same, tied.earlier)) in
        move.other_options k g inside other apart ∙ first.above k g within inside (omega (arith, tied.earlier));
    grown = λ g within.
        let was = first.above o g o_in within tied.earlier in
        elim (cases_eq g group) [
          | inl same ↦ let given : new o g ≡ middle o g + q = rw same move.given in omega arith
          | inr other ↦ omega (arith, move.other_groups o g within other)
        ];
  }

  pub pushed_cheapest : (price : ℕ → ℕ) → full network price group o ≤ full network price group before → IsCheapest network middle price → IsCheapest network new price
  pushed_cheapest price tight cheapest =
      moved_cheapest network price middle new before o group q move tied.source_in tied.via_in (omega (arith, first.grown group tied.via_in, tied.carried)) tied.allowed tight cheapest

-- enough pins are still there to be taken, and there is place for them
pub still_there : (network : NetworkParts) (old middle : ℕ → ℕ → ℕ) (labels : List Label) (start o before group q : ℕ) → IsNetwork network → AllPlaced network old
    → o < options network → IsTied network old labels o before group → IsPushed network old middle labels start before q → q ≤ old before group
    → (q ≤ middle before group) × (middle before group + middle o group ≤ 16777216) × (before ≢ o)
still_there network old middle labels start o before group q lawful placed o_in tied first enough =
    let apart : before ≢ o = λ same. absurd (omega (arith, ap (rank labels) same, tied.earlier)) in (
      omega (arith, first.grown group tied.via_in),
      omega (
        arith,
        two-le-sum_to (options network) (λ k. middle k group) before o tied.source_in o_in apart,
        first.rows group tied.via_in,
        placed group tied.via_in,
        count-le network lawful group tied.via_in,
      ),
      apart,
    )

-- the way back from the option before
pub trail_back : (network : NetworkParts) (used : ℕ → ℕ → ℕ) (labels : List Label) (start o : ℕ) → IsTied network used labels o (source labels o) (via labels o)
    → IsTrail network used labels start (dist labels o) → IsTrail network used labels start (dist labels (source labels o))
trail_back network used labels start o tied trail k within ne near = trail k within ne (omega (arith, tied.nearer))

pub tight_back : (network : NetworkParts) (used : ℕ → ℕ → ℕ) (price : ℕ → ℕ) (labels : List Label) (start o : ℕ) → IsTied network used labels o (source labels o) (via labels o)
    → IsTight network price labels start (dist labels o) → IsTight network price labels start (dist labels (source labels o))
tight_back network used price labels start o tied tight k within ne near = tight k within ne (omega (arith, tied.nearer))
