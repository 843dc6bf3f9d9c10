-- The first of the freest servers, found in one walk.
use Rattle.std.proofs.Common.{◌≡◌, ℕ, ◌*◌, ◌<◌, ◌≤◌, Bool, true, false, not, ◌&&◌, ◌||◌, cond, Some, None, List, [], ◌∷◌, refl, sym, ap, ◌∙◌, inl, inr, arith}
use Rattle.std.specs.Prelude.{filter, fold}
use Rattle.std.specs.List.{find, list_all}
use Rattle.std.proofs.Math.Nat.{mul-le-mul_right, le_of_mul-le-mul_right}
use Rattle.std.proofs.lemmas.Bool.{false≢true, cases_Bool, and_parts, and_from, and_right, false_from_ne_true, leb-true, leb-false, le-leb}
use Rattle.lb_desk_model.specs.Picks.{round_from, is_as_free, weight_at, connections_at}
use Rattle.lb_desk_model.specs.States.{ServerState}
use Rattle.lb_desk_pick.specs.Walks.{freer}
use Rattle.lb_desk_pick.proofs.Lists.{both, find-filter, list_all-filter, all_filtered, list_all-round, find_same}

-- of two good elements the one is at most the other, and what is at most the next is at most the one behind it
pub record IsOrder (good : ℕ → Bool) (le : ℕ → ℕ → Bool) : Type 0 where
  pub total : (a b : ℕ) → good a ≡ true → good b ≡ true → le a b ≡ false → le b a ≡ true
  pub through : (a b c : ℕ) → good a ≡ true → good b ≡ true → good c ≡ true → le a b ≡ true → le b c ≡ true → le a c ≡ true

self : (good : ℕ → Bool) (le : ℕ → ℕ → Bool) → IsOrder good le → (a : ℕ) → good a ≡ true → le a a ≡ true
self good le order a g = elim (cases_Bool (le a a)) [
  | inl holds ↦ holds
  | inr fails ↦ order.total a a g g fails
]

-- what is at most an element is at most all that this one is at most
all_through : (good : ℕ → Bool) (le : ℕ → ℕ → Bool) → IsOrder good le → (b x : ℕ) (xs : List ℕ) → good b ≡ true → good x ≡ true
    → list_all good xs ≡ true → le b x ≡ true → list_all (le x) xs ≡ true → list_all (le b) xs ≡ true
all_through good le order b x [] gb gx gs bx all = refl
all_through good le order b x (y ∷ ys) gb gx gs bx all =
    let g = and_parts (good y) (list_all good ys) gs in
    let l = and_parts (le x y) (list_all (le x) ys) all in
    and_from (le b y) (list_all (le b) ys) (order.through b x y gb gx g.0 bx l.0) (all_through good le order b x ys gb gx g.1 bx l.1)

-- Two walks side by side: one comes to x from b, which is at most x
module _ (good : ℕ → Bool) (le : ℕ → ℕ → Bool) (order : IsOrder good le) (b x : ℕ) (xs : List ℕ) (gb : good b ≡ true) (gx : good x ≡ true) (gs : list_all good xs ≡ true) where
  abbrev least : ℕ → Bool
  least y = list_all (le y) (b ∷ x ∷ xs)

  -- ---- where b is at most x, x may be left out
  abbrev among : ℕ → Bool
  among y = list_all (le y) (b ∷ xs)

  agree : le b x ≡ true → (y : ℕ) → good y ≡ true → among y ≡ least y
  agree bx y gy = elim (cases_Bool (le y b)) [
    | inl holds ↦ rw (holds, order.through y b x gy gb gx holds bx) refl
    | inr fails ↦ rw fails refl
  ]

  x_fails : le b x ≡ true → among b ≡ false → least x ≡ false
  x_fails bx fails = false_from_ne_true (least x) (λ holds.
      let first = and_parts (le x b) (le x x && list_all (le x) xs) holds in
      let second = and_parts (le x x) (list_all (le x) xs) first.1 in
      let all : among b ≡ true = and_from (le b b) (list_all (le b) xs) (self good le order b gb) (all_through good le order b x xs gb gx gs bx second.1) in
      false≢true (sym fails ∙ all))

  pub keep : le b x ≡ true → find among (b ∷ xs) ≡ find least (b ∷ x ∷ xs)
  keep bx = elim (cases_Bool (among b)) [
    | inl holds ↦
        let still : least b ≡ true = sym (agree bx b gb) ∙ holds in
        ap (λ (t : Bool). cond t (Some b) (find among xs)) holds ∙ sym (ap (λ (t : Bool). cond t (Some b) (find least (x ∷ xs))) still)
    | inr fails ↦
        let still : least b ≡ false = sym (agree bx b gb) ∙ fails in
        ap (λ (t : Bool). cond t (Some b) (find among xs)) fails
        ∙ (find_same good among least xs gs (agree bx)
        ∙ sym (ap (λ (t : Bool). cond t (Some b) (find least (x ∷ xs))) still ∙ ap (λ (t : Bool). cond t (Some x) (find least xs)) (x_fails bx fails)))
  ]

  -- ---- where x is less than b, b may be left out
  abbrev later : ℕ → Bool
  later y = list_all (le y) (x ∷ xs)

  agree_later : le x b ≡ true → (y : ℕ) → good y ≡ true → later y ≡ least y
  agree_later xb y gy = elim (cases_Bool (le y x)) [
    | inl holds ↦ rw (order.through y x b gy gx gb holds xb) refl
    | inr fails ↦ rw fails (sym (and_right (le y b) false refl))
  ]

  pub change : le b x ≡ false → find later (x ∷ xs) ≡ find least (b ∷ x ∷ xs)
  change fails =
      let xb : le x b ≡ true = order.total b x gb gx fails in
      let b_fails : least b ≡ false = and_right (le b b) (le b x && list_all (le b) xs) (ap (λ (t : Bool). t && list_all (le b) xs) fails) in
      find_same good later least (x ∷ xs) (and_from (good x) (list_all good xs) gx gs) (agree_later xb)
      ∙ sym (ap (λ (t : Bool). cond t (Some b) (find least (x ∷ xs))) b_fails)

-- the first of the least, where the walk has come from b
least_from : (good : ℕ → Bool) (le : ℕ → ℕ → Bool) → IsOrder good le → (xs : List ℕ) (b : ℕ) → good b ≡ true → list_all good xs ≡ true
    → fold (freer le) (Some b) xs ≡ find (λ y. list_all (le y) (b ∷ xs)) (b ∷ xs)
least_from good le order [] b gb gs = rw (self good le order b gb) refl
least_from good le order (x ∷ xs) b gb gs =
    let g = and_parts (good x) (list_all good xs) gs in
    go (le b x) refl g.0 g.1 (least_from good le order xs b gb g.1) (least_from good le order xs x g.0 g.1)
  where
    go : (t : Bool) → le b x ≡ t → good x ≡ true → list_all good xs ≡ true
        → fold (freer le) (Some b) xs ≡ find (λ y. list_all (le y) (b ∷ xs)) (b ∷ xs)
        → fold (freer le) (Some x) xs ≡ find (λ y. list_all (le y) (x ∷ xs)) (x ∷ xs)
        → fold (freer le) (cond t (Some b) (Some x)) xs ≡ find (λ y. list_all (le y) (b ∷ x ∷ xs)) (b ∷ x ∷ xs)
    go true e gx gr from_b from_x = from_b ∙ keep good le order b x xs gb gx gr e
    go false e gx gr from_b from_x = from_x ∙ change good le order b x xs gb gx gr e

first_least : (good : ℕ → Bool) (le : ℕ → ℕ → Bool) → IsOrder good le → (xs : List ℕ) → list_all good xs ≡ true
    → fold (freer le) None xs ≡ find (λ y. list_all (le y) xs) xs
first_least good le order [] gs = refl
first_least good le order (x ∷ xs) gs =
    let g = and_parts (good x) (list_all good xs) gs in
    least_from good le order xs x g.0 g.1

-- the good ones are walked through, going round
pub walk_round : (good behind : ℕ → Bool) (le : ℕ → ℕ → Bool) → IsOrder good le → (xs : List ℕ)
    → fold (freer le) None (filter good (round_from behind xs))
    ≡ find (λ y. good y && list_all (λ o. not (good o) || le y o) xs) (round_from behind xs)
walk_round good behind le order xs =
    let round = round_from behind xs in
    let test : ℕ → Bool = λ y. list_all (le y) (filter good round) in
    let wanted : ℕ → Bool = λ y. good y && list_all (λ o. not (good o) || le y o) xs in
    let same : both good test ≡ wanted =
    λ i y. ap (λ (t : Bool). good y && t) (list_all-filter good (le y) round ∙ list_all-round behind (λ o. not (good o) || le y o) xs) i in
    first_least good le order (filter good round) (all_filtered good round)
    ∙ (find-filter good test round ∙ ap (λ (p : ℕ → Bool). find p round) same)

-- ---- connections for their weights

quotients : (a u b v c w : ℕ) → 0 < v → a * v ≤ b * u → b * w ≤ c * v → a * w ≤ c * u
quotients a u b v c w some first second =
    let one : a * v * w ≤ b * u * w = mul-le-mul_right w first in
    let two : b * w * u ≤ c * v * u = mul-le-mul_right u second in
    let both : a * w * v ≤ c * u * v = omega (arith, one, two) in
    le_of_mul-le-mul_right both some

pub freedom_order : (servers : List ServerState) (good : ℕ → Bool) → ((s : ℕ) → good s ≡ true → 0 < weight_at servers s)
    → IsOrder good (is_as_free servers)
freedom_order servers good weighted = record {
  total = λ a b ga gb less.
      let below = leb-false (connections_at servers a * weight_at servers b) (connections_at servers b * weight_at servers a) less in
      le-leb (connections_at servers b * weight_at servers a) (connections_at servers a * weight_at servers b) (omega (arith, below));
  through = λ a b c ga gb gc ab bc.
      le-leb (connections_at servers a * weight_at servers c) (connections_at servers c * weight_at servers a)
      (quotients (connections_at servers a) (weight_at servers a) (connections_at servers b) (weight_at servers b) (connections_at servers c) (weight_at servers c)
      (weighted b gb)
      (leb-true (connections_at servers a * weight_at servers b) (connections_at servers b * weight_at servers a) ab)
      (leb-true (connections_at servers b * weight_at servers c) (connections_at servers c * weight_at servers b) bc));
}
