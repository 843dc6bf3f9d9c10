-- Sums over the rows, and what holds of all of them.
use Rattle.std.proofs.Common.{◌≡◌, ℕ, zero, suc, ◌<◌, Bool, true, false, cond, ltb, List, [], ◌∷◌, ◌++◌, refl, sym, ap, ◌∙◌, arith}
use Rattle.std.specs.List.{sum_by, All}
use Rattle.std.proofs.lemmas.Bool.{ltb-true, ltb-false}
use Rattle.std.proofs.lemmas.List.Sums.{sum_by-cons, sum_by-append}
use Rattle.std.proofs.lemmas.List.Elements.{All-nil, All-cons, All-append}
use Rattle.lb_types_pins.specs.declared.kind.Row.{Row}
use Rattle.pin_set.specs.Costs.{sum_to}
use Rattle.cert_check_law.proofs.Sums.{sum_to-none, sum_to-suc}
use Rattle.flow_planner_net.specs.Networks.{NetworkParts, options, size}
use Rattle.flow_planner_net.specs.RowLists.{row_at, group_rows, rows_to, SumsOverRows}

-- the row of a group and an option, where there are pins
abbrev pub one_row : NetworkParts → (ℕ → ℕ → ℕ) → ℕ → ℕ → Bool → List Row
one_row network used g o b = cond b (row_at network used g o ∷ []) []

pub group_rows-more : (network : NetworkParts) (used : ℕ → ℕ → ℕ) (g o : ℕ)
    → group_rows network used g (suc o) ≡ group_rows network used g o ++ one_row network used g o (ltb 0 (used o g))
unfolding group_rows
group_rows-more network used g o = refl

pub group_rows-none : (network : NetworkParts) (used : ℕ → ℕ → ℕ) (g : ℕ) → group_rows network used g 0 ≡ []
unfolding group_rows
group_rows-none network used g = refl

pub rows_to-more : (network : NetworkParts) (used : ℕ → ℕ → ℕ) (g : ℕ) → rows_to network used (suc g) ≡ rows_to network used g ++ group_rows network used g (options network)
unfolding rows_to
rows_to-more network used g = refl

pub rows_to-none : (network : NetworkParts) (used : ℕ → ℕ → ℕ) → rows_to network used 0 ≡ []
unfolding rows_to
rows_to-none network used = refl

module _ (network : NetworkParts) (used : ℕ → ℕ → ℕ) (f : Row → ℕ) (none : (g o : ℕ) → used o g ≡ 0 → f (row_at network used g o) ≡ 0) where
  sum-one_row : (g o : ℕ) → sum_by f (one_row network used g o (ltb 0 (used o g))) ≡ f (row_at network used g o)
  sum-one_row g o = split (ltb 0 (used o g)) refl
    where
      split : (b : Bool) → ltb 0 (used o g) ≡ b → sum_by f (one_row network used g o b) ≡ f (row_at network used g o)
      split true is = omega (arith, sum_by-cons f (row_at network used g o) [])
      split false is = let empty : used o g ≡ 0 = omega (arith, ltb-false 0 (used o g) is) in sym (none g o empty)

  sum-group_rows : (g o : ℕ) → sum_by f (group_rows network used g o) ≡ sum_to o (λ k. f (row_at network used g k))
  sum-group_rows g zero = ap (sum_by f) (group_rows-none network used g) ∙ sym (sum_to-none (λ k. f (row_at network used g k)))
  sum-group_rows g (suc o) =
      let more = ap (sum_by f) (group_rows-more network used g o) in
      omega (
        arith,
        more,
        sum_by-append f (group_rows network used g o) (one_row network used g o (ltb 0 (used o g))),
        sum-one_row g o,
        sum-group_rows g o,
        sum_to-suc o (λ k. f (row_at network used g k)),
      )

  pub sum-rows_to : (g : ℕ) → sum_by f (rows_to network used g) ≡ sum_to g (λ h. sum_to (options network) (λ o. f (row_at network used h o)))
  sum-rows_to zero = ap (sum_by f) (rows_to-none network used) ∙ sym (sum_to-none (λ h. sum_to (options network) (λ o. f (row_at network used h o))))
  sum-rows_to (suc g) =
      let more = ap (sum_by f) (rows_to-more network used g) in
      omega (
        arith,
        more,
        sum_by-append f (rows_to network used g) (group_rows network used g (options network)),
        sum-group_rows g (options network),
        sum-rows_to g,
        sum_to-suc g (λ h. sum_to (options network) (λ o. f (row_at network used h o))),
      )

pub sums_over_rows : SumsOverRows
sums_over_rows network used f none = sum-rows_to network used f none (size network)

module _ (network : NetworkParts) (used : ℕ → ℕ → ℕ) (P : Row → Type 0) where
  All-one_row : (g o : ℕ) → (0 < used o g → P (row_at network used g o)) → All P (one_row network used g o (ltb 0 (used o g)))
  All-one_row g o holds = split (ltb 0 (used o g)) refl
    where
      split : (b : Bool) → ltb 0 (used o g) ≡ b → All P (one_row network used g o b)
      split true is = All-cons P (row_at network used g o) [] (holds (ltb-true 0 (used o g) is)) (All-nil P)
      split false is = All-nil P

  All-group_rows : (g o : ℕ) → ((k : ℕ) → k < o → 0 < used k g → P (row_at network used g k)) → All P (group_rows network used g o)
  All-group_rows g zero holds = rw (group_rows-none network used g) (All-nil P)
  All-group_rows g (suc o) holds =
      rw (group_rows-more network used g o)
      (All-append P (group_rows network used g o) (one_row network used g o (ltb 0 (used o g)))
      (All-group_rows g o (λ k below some. holds k (omega arith) some)) (All-one_row g o (holds o (omega arith))))

  pub All-rows_to : (g : ℕ) → ((h o : ℕ) → h < g → o < options network → 0 < used o h → P (row_at network used h o)) → All P (rows_to network used g)
  All-rows_to zero holds = rw (rows_to-none network used) (All-nil P)
  All-rows_to (suc g) holds =
      rw (rows_to-more network used g)
      (All-append P (rows_to network used g) (group_rows network used g (options network))
      (All-rows_to g (λ h o below within some. holds h o (omega arith) within some)) (All-group_rows g (options network) (λ o within some. holds g o (omega arith) within some)))
