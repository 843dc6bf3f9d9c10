-- Pins of one group moved from one option to another.
use Rattle.std.proofs.Common.{◌≡◌, ℕ, ◌+◌, ◌<◌, ◌≤◌, ◌≢◌, true, sym, ◌∙◌, ◌⊎◌, inl, inr, arith}
use Rattle.std.proofs.lemmas.Bool.{cases_eq}
use Rattle.pin_set.specs.Costs.{sum_to}
use Rattle.cert_check_law.proofs.Sums.{sum_to-same}
use Rattle.flow_planner_net.specs.Networks.{NetworkParts, options, size, may}
use Rattle.flow_planner_net.specs.States.{full, IsCheapest}
use Rattle.flow_planner_net.specs.Moves.{IsMoved}
use Rattle.flow_planner_net.proofs.Sums.{sum_to-moved, sum_to-changed_below}
use Rattle.flow_planner_net.proofs.Tables.{IsSet}

-- two changes of a table make a move
pub moved-sets : (width : ℕ) (old middle new : ℕ → ℕ → ℕ) (source target via q n k : ℕ) → via < width → source ≢ target
    → IsSet width old middle source via n → IsSet width middle new target via k → n + q ≡ old source via → k ≡ old target via + q
    → IsMoved width old new source target via q
moved-sets width old middle new source target via q n k below apart first second less more = record {
  apart = apart;
  taken = omega (arith, second.other_options source via below apart, first.here);
  given = omega (arith, second.here);
  other_options = λ o h within ne_source ne_target. second.other_options o h within ne_target ∙ first.other_options o h within ne_source;
  other_groups = λ o h within ne. second.other_groups o h within ne ∙ first.other_groups o h within ne;
}

module _ (width : ℕ) (old new : ℕ → ℕ → ℕ) (source target via q : ℕ) (below : via < width) (move : IsMoved width old new source target via q) where
  -- each group has as many pins as before
  pub moved_rows : (height : ℕ) → source < height → target < height → (g : ℕ) → g < width → sum_to height (λ o. new o g) ≡ sum_to height (λ o. old o g)
  moved_rows height source_in target_in g within =
      elim (cases_eq g via) [
        | inl same ↦
            rw same (sum_to-moved height (λ o. old o via) (λ o. new o via) source target q source_in target_in move.apart move.taken move.given
            (λ s ne_source ne_target. move.other_options s via below ne_source ne_target))
        | inr other ↦ sum_to-same height (λ o. new o g) (λ o. old o g) (λ s _. move.other_groups s g within other)
      ]

  -- the source has so many fewer, the target so many more, and every other option as many
  pub moved-source : sum_to width (new source) + q ≡ sum_to width (old source)
  moved-source =
      omega (arith, move.taken, sum_to-changed_below width (old source) (new source) via below (λ s within ne. sym (move.other_groups source s within ne)))

  pub moved-target : sum_to width (new target) ≡ sum_to width (old target) + q
  moved-target =
      omega (arith, move.given, sum_to-changed_below width (old target) (new target) via below (λ s within ne. sym (move.other_groups target s within ne)))

  pub moved-other : (k : ℕ) → k ≢ source → k ≢ target → sum_to width (new k) ≡ sum_to width (old k)
  moved-other k ne_source ne_target = sum_to-same width (new k) (old k) (λ s within. move.other_options k s within ne_source ne_target)

  -- pins stand where pins stood, and the moved ones at the target
  pub moved-used : (k h : ℕ) → h < width → 0 < new k h → (0 < old k h) ⊎ ((k ≡ target) × (h ≡ via))
  moved-used k h within some =
      elim (cases_eq h via) [
        | inr other ↦ inl (omega (arith, move.other_groups k h within other))
        | inl same ↦
            elim (cases_eq k target) [
              | inl there ↦ inr (there, same)
              | inr elsewhere ↦
                  elim (cases_eq k source) [
                    | inl left ↦ let before : new k h + q ≡ old k h = rw (left, same) move.taken in inl (omega arith)
                    | inr apart ↦ inl (omega (arith, move.other_options k h within apart elsewhere))
                  ]
            ]
      ]

-- a move to an option that is no dearer leaves all pins at their cheapest options
pub moved_cheapest : (network : NetworkParts) (price : ℕ → ℕ) (old new : ℕ → ℕ → ℕ) (source target via q : ℕ)
    → IsMoved (size network) old new source target via q → source < options network → via < size network → 0 < old source via
    → may network via target ≡ true → full network price via target ≤ full network price via source
    → IsCheapest network old price → IsCheapest network new price
moved_cheapest network price old new source target via q move source_in via_in some permitted near before = record {
  allowed = λ o g option group used.
      elim (moved-used (size network) old new source target via q via_in move o g group used) [
        | inl already ↦ before.allowed o g option group already
        | inr moved ↦ rw (moved.0, moved.1) permitted
      ];
  least = λ o k g option other group used may_go.
      elim (moved-used (size network) old new source target via q via_in move o g group used) [
        | inl already ↦ before.least o k g option other group already may_go
        | inr moved ↦
            let here : may network via k ≡ true = rw (← moved.1) may_go in
            rw (moved.0, moved.1) (omega (arith, near, before.least source k via source_in other via_in some here))
      ];
}
