-- Laws of sums over servers and of the least cost over a pin's options.
use Rattle.std.proofs.Common.{◌≡◌, Some, None, ℕ, zero, suc, ◌+◌, ◌*◌, ◌<◌, ◌≤◌, ◌≢◌, Bool, true, false, cond, min, List, [], ◌∷◌, refl, sym, ap, ◌∙◌, inl, inr, arith, add-one}
use Rattle.std.specs.List.{sum_by, All}
use Rattle.std.proofs.lemmas.Bool.{cases_eq}
use Rattle.std.proofs.lemmas.List.Sums.{sum_by-cons}
use Rattle.std.proofs.lemmas.List.Elements.{All-head, All-tail}
use Rattle.std.proofs.Math.Nat.{mul-le-mul_left}
use Rattle.lb_types.specs.Servers.{has}
use Rattle.lb_types_pins.specs.declared.kind.PinKind.{PinKind}
use Rattle.pin_set.specs.Costs.{least, sum_to, move_cost}

pub sum_to-none : (f : ℕ → ℕ) → sum_to 0 f ≡ 0
unfolding sum_to
sum_to-none f = refl

-- one server more
pub sum_to_more : (n : ℕ) (f : ℕ → ℕ) → sum_to (n + 1) f ≡ sum_to n f + f n
unfolding sum_to
sum_to_more n f = rw add-one refl

pub sum_to-suc : (n : ℕ) (f : ℕ → ℕ) → sum_to (suc n) f ≡ sum_to n f + f n
unfolding sum_to
sum_to-suc n f = refl

pub least-none : (u : ℕ) (price : ℕ → ℕ) (kind : PinKind) → least u price 0 kind ≡ u + move_cost kind None
unfolding least
least-none u price kind = refl

pub least-suc : (u : ℕ) (price : ℕ → ℕ) (n : ℕ) (kind : PinKind)
    → least u price (suc n) kind
    ≡ cond (has kind.permitted n) (min (least u price n kind) (move_cost kind (Some n) + price n)) (least u price n kind)
unfolding least
least-suc u price n kind = refl

-- one server more
pub least_more : (u : ℕ) (price : ℕ → ℕ) (n : ℕ) (kind : PinKind)
    → least u price (n + 1) kind
    ≡ cond (has kind.permitted n) (min (least u price n kind) (move_cost kind (Some n) + price n)) (least u price n kind)
least_more u price n kind = rw add-one (least-suc u price n kind)

pub sum_to-le : (n : ℕ) (f g : ℕ → ℕ) → ((s : ℕ) → s < n → f s ≤ g s) → sum_to n f ≤ sum_to n g
sum_to-le zero f g each = omega (arith, sum_to-none f, sum_to-none g)
sum_to-le (suc n) f g each =
    let so_far = sum_to-le n f g (λ s below. each s (omega arith)) in
    omega (arith, sum_to-suc n f, sum_to-suc n g, each n (omega arith))

pub sum_to-same : (n : ℕ) (f g : ℕ → ℕ) → ((s : ℕ) → s < n → f s ≡ g s) → sum_to n f ≡ sum_to n g
sum_to-same zero f g each = omega (arith, sum_to-none f, sum_to-none g)
sum_to-same (suc n) f g each =
    let so_far = sum_to-same n f g (λ s below. each s (omega arith)) in
    omega (arith, sum_to-suc n f, sum_to-suc n g, each n (omega arith))

pub sum_to-zero : (n : ℕ) (f : ℕ → ℕ) → ((s : ℕ) → s < n → f s ≡ 0) → sum_to n f ≡ 0
sum_to-zero zero f each = sum_to-none f
sum_to-zero (suc n) f each =
    let so_far = sum_to-zero n f (λ s below. each s (omega arith)) in
    omega (arith, sum_to-suc n f, each n (omega arith))

pub sum_to-add : (n : ℕ) (f g : ℕ → ℕ) → sum_to n (λ s. f s + g s) ≡ sum_to n f + sum_to n g
sum_to-add zero f g = omega (arith, sum_to-none f, sum_to-none g, sum_to-none (λ s. f s + g s))
sum_to-add (suc n) f g =
    omega (arith, sum_to-add n f g, sum_to-suc n f, sum_to-suc n g, sum_to-suc n (λ s. f s + g s))

-- no term is more than m
pub sum_to-below : (n : ℕ) (f : ℕ → ℕ) (m : ℕ) → ((s : ℕ) → s < n → f s ≤ m) → sum_to n f ≤ n * m
sum_to-below zero f m each = omega (arith, sum_to-none f)
sum_to-below (suc n) f m each =
    let so_far = sum_to-below n f m (λ s below. each s (omega arith)) in
    omega (arith, sum_to-suc n f, each n (omega arith))

pub le-sum_to : (n : ℕ) (f : ℕ → ℕ) (k : ℕ) → k < n → f k ≤ sum_to n f
le-sum_to zero f k below = absurd (omega arith)
le-sum_to (suc n) f k below =
    elim (cases_eq k n) [
      | inl same ↦ omega (arith, sum_to-suc n f, ap f same)
      | inr other ↦ omega (arith, sum_to-suc n f, le-sum_to n f k (omega arith))
    ]

-- of the sum so far and the next term, none is more than the whole sum
pub sum_to_more-le : (n : ℕ) (f : ℕ → ℕ) (k : ℕ) → k ≤ n → sum_to k f ≤ sum_to n f
sum_to_more-le zero f k within = let none : k ≡ 0 = omega arith in rw none (omega arith)
sum_to_more-le (suc n) f k within =
    elim (cases_eq k (suc n)) [
      | inl same ↦ rw same (omega arith)
      | inr other ↦ omega (arith, sum_to-suc n f, sum_to_more-le n f k (omega arith))
    ]

-- two sums whose terms differ at one place alone
pub sum_to-changed : (n : ℕ) (f g : ℕ → ℕ) (k : ℕ) → k < n → ((s : ℕ) → s ≢ k → f s ≡ g s) → sum_to n f + g k ≡ sum_to n g + f k
sum_to-changed zero f g k below others = absurd (omega arith)
sum_to-changed (suc n) f g k below others =
    elim (cases_eq k n) [
      | inl same ↦
          let before = sum_to-same n f g (λ s earlier. others s (omega arith)) in
          omega (arith, sum_to-suc n f, sum_to-suc n g, ap f same, ap g same)
      | inr other ↦
          let ne : n ≢ k = omega arith in
          omega (arith, sum_to-suc n f, sum_to-suc n g, sum_to-changed n f g k (omega arith) others, others n ne)
    ]

-- a sum over servers of sums over a list is a sum over the list of sums over servers
pub sum_to-sum_by : {X : Type 0} (n : ℕ) (f : ℕ → X → ℕ) (xs : List X)
    → sum_to n (λ s. sum_by (f s) xs) ≡ sum_by (λ x. sum_to n (λ s. f s x)) xs
sum_to-sum_by n f [] = sum_to-zero n (λ s. sum_by (f s) []) (λ s below. refl)
sum_to-sum_by n f (x ∷ xs) =
    sum_to-same n (λ s. sum_by (f s) (x ∷ xs)) (λ s. f s x + sum_by (f s) xs) (λ s below. sum_by-cons (f s) x xs)
    ∙ (sum_to-add n (λ s. f s x) (λ s. sum_by (f s) xs)
    ∙ (ap (λ k. sum_to n (λ s. f s x) + k) (sum_to-sum_by n f xs)
    ∙ sym (sum_by-cons (λ y. sum_to n (λ s. f s y)) x xs)))

-- a weighted sum, none of whose values is more than m, is at most the sum of the weights times m
pub weighted-below : {X : Type 0} (w f : X → ℕ) (m : ℕ) (xs : List X) → All (λ x. f x ≤ m) xs → sum_by (λ x. w x * f x) xs ≤ sum_by w xs * m
weighted-below w f m [] each = omega arith
weighted-below w f m (x ∷ xs) each =
    let here : w x * f x ≤ w x * m = mul-le-mul_left (w x) (All-head (λ y. f y ≤ m) x xs each) in
    let rest = weighted-below w f m xs (All-tail (λ y. f y ≤ m) x xs each) in
    let whole : sum_by w (x ∷ xs) * m ≡ w x * m + sum_by w xs * m = ap (λ k. k * m) (sum_by-cons w x xs) ∙ omega arith in
    omega (arith, sum_by-cons (λ y. w y * f y) x xs)

-- the same of the counts that pass a test
pub counted-le : {X : Type 0} (p : X → Bool) (w : X → ℕ) (x : X) → cond (p x) (w x) 0 ≤ w x
counted-le p w x = elim (p x) as (λ b. cond b (w x) 0 ≤ w x) [ true ↦ omega arith | false ↦ omega arith ]

-- the least over the options is at most what going without a server costs
pub least-le_none : (u : ℕ) (price : ℕ → ℕ) (n : ℕ) (kind : PinKind) → least u price n kind ≤ u + move_cost kind None
least-le_none u price zero kind = omega (arith, least-none u price kind)
least-le_none u price (suc n) kind =
    let before = least-le_none u price n kind in
    rw (least-suc u price n kind)
    (elim (has kind.permitted n) as (λ b. cond b (min (least u price n kind) (move_cost kind (Some n) + price n)) (least u price n kind) ≤ u + move_cost kind None) [
      | true ↦ omega arith
      | false ↦ before
    ])

-- with more servers it is no more
pub least_more-le : (u : ℕ) (price : ℕ → ℕ) (n : ℕ) (kind : PinKind) → least u price (suc n) kind ≤ least u price n kind
least_more-le u price n kind =
    rw (least-suc u price n kind)
    (elim (has kind.permitted n) as (λ b. cond b (min (least u price n kind) (move_cost kind (Some n) + price n)) (least u price n kind) ≤ least u price n kind) [
      | true ↦ omega arith
      | false ↦ omega arith
    ])

-- the least over the options is at most cost and price of each permitted server
pub least-le_some : (u : ℕ) (price : ℕ → ℕ) (n : ℕ) (kind : PinKind) (server : ℕ)
    → server < n → has kind.permitted server ≡ true → least u price n kind ≤ move_cost kind (Some server) + price server
least-le_some u price zero kind server below permitted = absurd (omega arith)
least-le_some u price (suc n) kind server below permitted =
    elim (cases_eq server n) [
      | inl same ↦
          let here : has kind.permitted n ≡ true = ap (has kind.permitted) (sym same) ∙ permitted in
          rw (least-suc u price n kind, here, same) (omega arith)
      | inr other ↦ omega (arith, least_more-le u price n kind, least-le_some u price n kind server (omega arith) permitted)
    ]
