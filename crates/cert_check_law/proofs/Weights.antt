-- Lists whose elements have a key and a weight. What two such lists weigh at each key decides each weighted sum of the
-- keys' values.
use Rattle.std.proofs.Common.{◌≡◌, count_by, get_or, ℕ, zero, suc, ◌+◌, ◌*◌, ◌<◌, ◌≤◌, Bool, true, false, not, cond, List, [], ◌∷◌, refl, sym, ap, ◌∙◌, arith, length, filter}
use Rattle.std.specs.List.{sum_by, All}
use Rattle.std.proofs.lemmas.List.Sums.{sum_by-cons, get_or-le-sum_by, length-filter, count_by-le-length}
use Rattle.std.proofs.lemmas.List.Elements.{All-head, All-tail}

-- equal terms, equal sums
pub sum_by-same : {X : Type 0} (f g : X → ℕ) (xs : List X) → ((x : X) → f x ≡ g x) → sum_by f xs ≡ sum_by g xs
sum_by-same f g [] each = refl
sum_by-same f g (x ∷ xs) each = omega (arith, sum_by-cons f x xs, sum_by-cons g x xs, each x, sum_by-same f g xs each)

pub sum_by-none : {X : Type 0} (f : X → ℕ) (xs : List X) → ((x : X) → f x ≡ 0) → sum_by f xs ≡ 0
sum_by-none f [] each = refl
sum_by-none f (x ∷ xs) each = omega (arith, sum_by-cons f x xs, each x, sum_by-none f xs each)

pub sum_by-times : {X : Type 0} (f : X → ℕ) (m : ℕ) (xs : List X) → sum_by (λ x. f x * m) xs ≡ sum_by f xs * m
sum_by-times f m [] = omega arith
sum_by-times f m (x ∷ xs) =
    let whole : sum_by f (x ∷ xs) * m ≡ f x * m + sum_by f xs * m = ap (λ k. k * m) (sum_by-cons f x xs) ∙ omega arith in
    omega (arith, sum_by-cons (λ y. f y * m) x xs, sum_by-times f m xs)

-- what passes a test, and what is left without it
sum_by-split : {X : Type 0} (p : X → Bool) (f : X → ℕ) (xs : List X)
    → sum_by f xs ≡ sum_by (λ x. cond (p x) (f x) 0) xs + sum_by f (filter (λ x. not (p x)) xs)
sum_by-split p f [] = refl
sum_by-split p f (x ∷ xs) =
    let rest = sum_by-split p f xs in
    let one = sum_by-cons f x xs in
    let marked = sum_by-cons (λ y. cond (p y) (f y) 0) x xs in
    let here : f x + sum_by f (filter (λ y. not (p y)) xs) ≡ cond (p x) (f x) 0 + sum_by f (cond (not (p x)) (x ∷ filter (λ y. not (p y)) xs) (filter (λ y. not (p y)) xs)) =
    elim (p x) as (λ b. f x + sum_by f (filter (λ y. not (p y)) xs) ≡ cond b (f x) 0 + sum_by f (cond (not b) (x ∷ filter (λ y. not (p y)) xs) (filter (λ y. not (p y)) xs))) [
      | true ↦ refl
      | false ↦ omega (arith, sum_by-cons f x (filter (λ y. not (p y)) xs))
    ] in
    omega arith

sum_by-filter : {X : Type 0} (p : X → Bool) (f : X → ℕ) (xs : List X) → sum_by f (filter p xs) ≡ sum_by (λ x. cond (p x) (f x) 0) xs
sum_by-filter p f [] = refl
sum_by-filter p f (x ∷ xs) =
    let marked = sum_by-cons (λ y. cond (p y) (f y) 0) x xs in
    let here : sum_by f (cond (p x) (x ∷ filter p xs) (filter p xs)) ≡ cond (p x) (f x) 0 + sum_by f (filter p xs) =
    elim (p x) as (λ b. sum_by f (cond b (x ∷ filter p xs) (filter p xs)) ≡ cond b (f x) 0 + sum_by f (filter p xs)) [
      | true ↦ sum_by-cons f x (filter p xs)
      | false ↦ omega arith
    ] in
    omega (arith, sum_by-filter p f xs)

-- what the elements with this key weigh together
abbrev pub weight_at : {X R : Type 0} → (X → X → Bool) → (R → X) → (R → ℕ) → List R → X → ℕ
weight_at eq key w rs x = sum_by (λ r. cond (eq x (key r)) (w r) 0) rs

-- each element's weight times its key's value, added up
abbrev pub value_of : {X R : Type 0} → (R → X) → (R → ℕ) → (X → ℕ) → List R → ℕ
value_of key w f rs = sum_by (λ r. w r * f (key r)) rs

-- the elements with another key
abbrev without : {X R : Type 0} → (X → X → Bool) → (R → X) → X → List R → List R
without eq key x rs = filter (λ r. not (eq x (key r))) rs

-- a test of equality says true of equal ones, and of these alone
pub record IsEquality {X : Type 0} (eq : X → X → Bool) : Type 0 where
  pub reflexive : (x : X) → eq x x ≡ true
  pub truth : (x y : X) → eq x y ≡ true → x ≡ y

cond_none : (b : Bool) (n : ℕ) → cond (not b) (cond b n 0) 0 ≡ 0
cond_none true n = refl
cond_none false n = refl

cond_zero : (b : Bool) → cond {A = ℕ} b 0 0 ≡ 0
cond_zero true = refl
cond_zero false = refl

weight-without_same : {X R : Type 0} (eq : X → X → Bool) (key : R → X) (w : R → ℕ) (rs : List R) (x : X)
    → weight_at eq key w (without eq key x rs) x ≡ 0
weight-without_same eq key w rs x =
    sum_by-filter (λ r. not (eq x (key r))) (λ r. cond (eq x (key r)) (w r) 0) rs
    ∙ sum_by-none (λ r. cond (not (eq x (key r))) (cond (eq x (key r)) (w r) 0) 0) rs (λ r. cond_none (eq x (key r)) (w r))

kept_term : {X : Type 0} (eq : X → X → Bool) → IsEquality eq → (x y k : X) (n : ℕ) → eq x y ≡ false
    → cond (not (eq x k)) (cond (eq y k) n 0) 0 ≡ cond (eq y k) n 0
kept_term eq is x y k n other =
    let go : (b : Bool) → eq y k ≡ b → cond (not (eq x k)) (cond b n 0) 0 ≡ cond b n 0 =
    λ b. elim b as (λ b. eq y k ≡ b → cond (not (eq x k)) (cond b n 0) 0 ≡ cond b n 0) [
      | true ↦ λ same. let e : eq x k ≡ false = ap (eq x) (sym (is.truth y k same)) ∙ other in rw e refl
      | false ↦ λ differ. cond_zero (not (eq x k))
    ] in
    go (eq y k) refl

weight-without_other : {X R : Type 0} (eq : X → X → Bool) → IsEquality eq → (key : R → X) (w : R → ℕ) (rs : List R) (x y : X)
    → eq x y ≡ false → weight_at eq key w (without eq key x rs) y ≡ weight_at eq key w rs y
weight-without_other eq is key w rs x y other =
    sum_by-filter (λ r. not (eq x (key r))) (λ r. cond (eq y (key r)) (w r) 0) rs
    ∙ sum_by-same (λ r. cond (not (eq x (key r))) (cond (eq y (key r)) (w r) 0) 0) (λ r. cond (eq y (key r)) (w r) 0) rs (λ r. kept_term eq is x y (key r) (w r) other)

weight-without : {X R : Type 0} (eq : X → X → Bool) → IsEquality eq → (key : R → X) (w : R → ℕ) (rs : List R) (x y : X)
    → weight_at eq key w (without eq key x rs) y ≡ cond (eq x y) 0 (weight_at eq key w rs y)
weight-without eq is key w rs x y =
    let go : (b : Bool) → eq x y ≡ b → weight_at eq key w (without eq key x rs) y ≡ cond b 0 (weight_at eq key w rs y) =
    λ b. elim b as (λ b. eq x y ≡ b → weight_at eq key w (without eq key x rs) y ≡ cond b 0 (weight_at eq key w rs y)) [
      | true ↦ λ same. ap (weight_at eq key w (without eq key x rs)) (sym (is.truth x y same)) ∙ weight-without_same eq key w rs x
      | false ↦ λ differ. weight-without_other eq is key w rs x y differ
    ] in
    go (eq x y) refl

marked_value : (b : Bool) (n v u : ℕ) → (b ≡ true → v ≡ u) → cond b (n * v) 0 ≡ cond b n 0 * u
marked_value true n v u same = ap (λ k. n * k) (same refl)
marked_value false n v u same = omega arith

value-without : {X R : Type 0} (eq : X → X → Bool) → IsEquality eq → (key : R → X) (w : R → ℕ) (f : X → ℕ) (rs : List R) (x : X)
    → value_of key w f rs ≡ weight_at eq key w rs x * f x + value_of key w f (without eq key x rs)
value-without eq is key w f rs x =
    let split = sum_by-split (λ r. eq x (key r)) (λ r. w r * f (key r)) rs in
    let each = sum_by-same (λ r. cond (eq x (key r)) (w r * f (key r)) 0) (λ r. cond (eq x (key r)) (w r) 0 * f x) rs
    (λ r. marked_value (eq x (key r)) (w r) (f (key r)) (f x) (λ same. ap f (sym (is.truth x (key r) same)))) in
    let times = sum_by-times (λ r. cond (eq x (key r)) (w r) 0) (f x) rs in
    omega arith

-- where every key weighs nothing, every sum is 0
value-none : {X R : Type 0} (eq : X → X → Bool) → IsEquality eq → (key : R → X) (w : R → ℕ) (f : X → ℕ) (rs : List R)
    → ((x : X) → weight_at eq key w rs x ≡ 0) → value_of key w f rs ≡ 0
value-none eq is key w f [] none = refl
value-none {X = X} eq is key w f (r ∷ rs) none =
    let at : (x : X) → weight_at eq key w (r ∷ rs) x ≡ cond (eq x (key r)) (w r) 0 + weight_at eq key w rs x = λ x. sum_by-cons (λ q. cond (eq x (key q)) (w q) 0) r rs in
    let here : cond (eq (key r) (key r)) (w r) 0 ≡ w r = rw (is.reflexive (key r)) refl in
    let no_weight : w r ≡ 0 = omega (arith, at (key r), none (key r)) in
    let rest = value-none eq is key w f rs (λ x. omega (arith, at x, none x)) in
    let first : w r * f (key r) ≡ 0 = ap (λ k. k * f (key r)) no_weight ∙ omega arith in
    omega (arith, sum_by-cons (λ q. w q * f (key q)) r rs)

same_values : {X R Q : Type 0} (eq : X → X → Bool) → IsEquality eq → (n : ℕ) (key : R → X) (w : R → ℕ) (rs : List R) (key' : Q → X) (w' : Q → ℕ) (qs : List Q) (f : X → ℕ)
    → length rs ≤ n → ((x : X) → weight_at eq key w rs x ≡ weight_at eq key' w' qs x) → value_of key w f rs ≡ value_of key' w' f qs
same_values eq is n key w [] key' w' qs f short same = sym (value-none eq is key' w' f qs (λ x. sym (same x)))
same_values eq is zero key w (r ∷ rs) key' w' qs f short same = absurd (omega arith)
same_values eq is (suc n) key w (r ∷ rs) key' w' qs f short same =
    let x = key r in
    let gone : without eq key x (r ∷ rs) ≡ without eq key x rs = rw (is.reflexive (key r)) refl in
    let fewer : length (without eq key x (r ∷ rs)) ≤ n =
    rw gone (omega (arith, length-filter (λ q. not (eq (key r) (key q))) rs, count_by-le-length (λ q. not (eq (key r) (key q))) rs)) in
    let rest = same_values eq is n key w (without eq key x (r ∷ rs)) key' w' (without eq key' x qs) f fewer
    (λ y. weight-without eq is key w (r ∷ rs) x y ∙ (ap (cond (eq x y) 0) (same y) ∙ sym (weight-without eq is key' w' qs x y))) in
    let weighed : weight_at eq key w (r ∷ rs) x * f x ≡ weight_at eq key' w' qs x * f x = ap (λ k. k * f x) (same x) in
    omega (arith, value-without eq is key w f (r ∷ rs) x, value-without eq is key' w' f qs x)

-- the sum over things of their values is the weighted sum, where of each thing there are as many as its weight
pub sum_by-weights : {X R : Type 0} (eq : X → X → Bool) → IsEquality eq → (key : R → X) (w : R → ℕ) (rs : List R) (xs : List X) (f : X → ℕ)
    → ((x : X) → count_by (eq x) xs ≡ weight_at eq key w rs x) → sum_by f xs ≡ value_of key w f rs
sum_by-weights eq is key w rs xs f counts =
    sum_by-same f (λ x. 1 * f x) xs (λ x. omega arith)
    ∙ same_values eq is (length xs) (λ x. x) (λ x. 1) xs key w rs f (omega arith) counts

-- what holds of each key holds of every x that weighs something
pub holds_where_heavy : {X R : Type 0} (eq : X → X → Bool) → IsEquality eq → (P : X → Type 0) (key : R → X) (w : R → ℕ) (rs : List R) (x : X)
    → All (λ r. P (key r)) rs → 0 < weight_at eq key w rs x → P x
holds_where_heavy eq is P key w [] x each some = absurd (omega arith)
holds_where_heavy eq is P key w (r ∷ rs) x each some =
    let at = sum_by-cons (λ q. cond (eq x (key q)) (w q) 0) r rs in
    let go : (b : Bool) → eq x (key r) ≡ b → P x =
    λ b. elim b as (λ b. eq x (key r) ≡ b → P x) [
      | true ↦ λ same. rw (is.truth x (key r) same) (All-head (λ q. P (key q)) r rs each)
      | false ↦ λ differ.
          let none : cond (eq x (key r)) (w r) 0 ≡ 0 = rw differ refl in
          holds_where_heavy eq is P key w rs x (All-tail (λ q. P (key q)) r rs each) (omega arith)
    ] in
    go (eq x (key r)) refl

-- what holds of each key holds of each thing
pub All-weights : {X R : Type 0} (eq : X → X → Bool) → IsEquality eq → (P : X → Type 0) (key : R → X) (w : R → ℕ) (rs : List R) (xs : List X)
    → ((x : X) → count_by (eq x) xs ≡ weight_at eq key w rs x) → All (λ r. P (key r)) rs → All P xs
All-weights eq is P key w rs xs counts each i d within =
    let x = get_or xs i d in
    let one : cond {A = ℕ} (eq x x) 1 0 ≡ 1 = rw (is.reflexive x) refl in
    let there = get_or-le-sum_by (λ y. cond (eq x y) 1 0) xs i d within in
    holds_where_heavy eq is P key w rs x each (omega (arith, counts x))
