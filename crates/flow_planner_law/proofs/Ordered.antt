-- The rows stand in strictly rising order.
use Rattle.std.proofs.Common.{◌≡◌, ℕ, zero, suc, ◌<◌, ◌≤◌, Bool, true, false, ltb, ◌&&◌, List, [], ◌∷◌, ◌++◌, refl, arith}
use Rattle.std.specs.List.{All, AllPairs}
use Rattle.std.proofs.lemmas.Bool.{lt-ltb, or_right}
use Rattle.std.proofs.lemmas.List.Elements.{All-nil, All-cons, All-head, All-tail, All-append}
use Rattle.lb_types_pins.specs.declared.kind.Row.{Row}
use Rattle.lb_types_pins.specs.Kinds.{same_kind, kind_before, row_before, place_before, place_rank}
use Rattle.lb_types_pins.proofs.Order.{same_kind-refl}
use Rattle.lb_types_pins.proofs.Pairs.{AllPairs-nil, AllPairs-cons, AllPairs-head, AllPairs-tail}
use Rattle.flow_planner_net.specs.Networks.{NetworkParts, options, size, place_of, no_group, group_at}
use Rattle.flow_planner_net.specs.RowLists.{row_at, group_rows, rows_to}
use Rattle.flow_planner_net.proofs.RowSums.{one_row, All-rows_to}

AllPairs-append : {X : Type 0} (R : X → X → Type 0) (xs ys : List X) → AllPairs R xs → AllPairs R ys → All (λ x. All (R x) ys) xs → AllPairs R (xs ++ ys)
AllPairs-append R [] ys first second across = second
AllPairs-append R (x ∷ xs) ys first second across =
    AllPairs-cons R x (xs ++ ys)
    (All-append (R x) xs ys (AllPairs-head R x xs first) (All-head (λ x. All (R x) ys) x xs across))
    (AllPairs-append R xs ys (AllPairs-tail R x xs first) second (All-tail (λ x. All (R x) ys) x xs across))

abbrev Before : Row → Row → Type 0
Before a b = row_before a b ≡ true

place_of-rank : (o : ℕ) → place_rank (place_of o) ≡ o
place_of-rank zero = refl
place_of-rank (suc s) = refl

module _ (network : NetworkParts) (used : ℕ → ℕ → ℕ) where
  -- rows of one group by their places
  before-there : (g k o : ℕ) → k < o → Before (row_at network used g k) (row_at network used g o)
  before-there g k o earlier =
      let kind = (group_at network g).kind in
      let ranks : place_rank (place_of k) < place_rank (place_of o) = omega (arith, place_of-rank k, place_of-rank o) in
      let places : place_before (place_of k) (place_of o) ≡ true = lt-ltb (place_rank (place_of k)) (place_rank (place_of o)) ranks in
      let same : (same_kind kind kind && place_before (place_of k) (place_of o)) ≡ true = rw (same_kind-refl kind, places) refl in
      or_right (kind_before kind kind) (same_kind kind kind && place_before (place_of k) (place_of o)) same

  -- rows of two groups by their kinds
  before-kind : (g h k o : ℕ) → kind_before (group_at network g).kind (group_at network h).kind ≡ true → Before (row_at network used g k) (row_at network used h o)
  before-kind g h k o kinds = rw kinds refl

module _ (network : NetworkParts) (used : ℕ → ℕ → ℕ) (P : Row → Type 0) where
  All-one_row : (g o : ℕ) → P (row_at network used g o) → (b : Bool) → All P (one_row network used g o b)
  All-one_row g o holds true = All-cons P (row_at network used g o) [] holds (All-nil P)
  All-one_row g o holds false = All-nil P

  All-group_rows : (g o : ℕ) → ((k : ℕ) → k < o → P (row_at network used g k)) → All P (group_rows network used g o)
  unfolding group_rows
  All-group_rows g zero holds = All-nil P
  All-group_rows g (suc o) holds =
      All-append P (group_rows network used g o) (one_row network used g o (ltb 0 (used o g)))
      (All-group_rows g o (λ k below. holds k (omega arith))) (All-one_row g o (holds o (omega arith)) (ltb 0 (used o g)))

module _ (network : NetworkParts) (used : ℕ → ℕ → ℕ) where
  one_row-rising : (g o : ℕ) (b : Bool) → AllPairs Before (one_row network used g o b)
  one_row-rising g o true = AllPairs-cons Before (row_at network used g o) [] (All-nil (Before (row_at network used g o))) (AllPairs-nil Before)
  one_row-rising g o false = AllPairs-nil Before

  group_rows-rising : (g o : ℕ) → AllPairs Before (group_rows network used g o)
  unfolding group_rows
  group_rows-rising g zero = AllPairs-nil Before
  group_rows-rising g (suc o) =
      let last = one_row network used g o (ltb 0 (used o g)) in
      AllPairs-append Before (group_rows network used g o) last (group_rows-rising g o) (one_row-rising g o (ltb 0 (used o g)))
      (All-group_rows network used (λ r. All (Before r) last) g o
      (λ k below. All-one_row network used (Before (row_at network used g k)) g o (before-there network used g k o below) (ltb 0 (used o g))))

  pub rows-rising : AllPairs (λ a b. kind_before a.kind b.kind ≡ true) network.groups → (g : ℕ) → g ≤ size network → AllPairs Before (rows_to network used g)
  unfolding rows_to
  rows-rising rising zero within = AllPairs-nil Before
  rows-rising rising (suc g) within =
      let last = group_rows network used g (options network) in
      AllPairs-append Before (rows_to network used g) last (rows-rising rising g (omega arith)) (group_rows-rising g (options network))
      (All-rows_to network used (λ r. All (Before r) last) g
      (λ h o below inside some. All-group_rows network used (Before (row_at network used h o)) g (options network)
      (λ k option. before-kind network used h g o k (rising h g no_group below (omega arith)))))
