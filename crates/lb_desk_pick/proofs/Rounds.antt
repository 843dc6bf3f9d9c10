-- The round of stands, without writing it out: behind a stand come the next turn of its server, and then first turns.
use Rattle.std.proofs.Common.{◌≡◌, ℕ, ◌+◌, ◌-◌, ◌<◌, ◌≤◌, zero, suc, Bool, true, false, ◌&&◌, cond, ltb, Option, Some, None, List, [], ◌∷◌, length, map, refl, sym, ap, ◌∙◌, inl, inr, arith}
use Rattle.std.specs.List.{find, flat_map, enumerate_from, range_with_len}
use Rattle.std.specs.Option.{option_map, option_or}
use Rattle.std.proofs.Math.Bool.{and-true}
use Rattle.std.proofs.lemmas.Bool.{cases_lt, cases_Bool, and_right, lt-ltb, le-ltb, eq-eqb, ne_eqb}
use Rattle.std.proofs.lemmas.List.Folds.{find-append}
use Rattle.lb_desk_model.specs.declared.stand.Stand.{Stand}
use Rattle.lb_desk_model.specs.Picks.{stand, stands_of, is_behind, weight_at}
use Rattle.lb_desk_model.specs.States.{ServerState}

abbrev pub first_turn : ℕ → Stand
first_turn server = stand server 1

-- the stands of these servers, the first of which has the number k
abbrev pub stands_from : ℕ → List ServerState → List Stand
stands_from k servers = flat_map stands_of (enumerate_from k servers)

-- ---- one server

-- no stand of the server passes
none_of : (q : Stand → Bool) (k a n : ℕ) → ((j : ℕ) → q (stand k j) ≡ false) → find q (map (stand k) (range_with_len a n)) ≡ None
none_of q k a zero none = refl
none_of q k a (suc n) none = rw (none a) (none_of q k (a + 1) n none)

-- the first stand of the server passes
first_of : (q : Stand → Bool) (k n : ℕ) → 0 < n → ((j : ℕ) → q (stand k j) ≡ true) → find q (map (stand k) (range_with_len 1 n)) ≡ Some (first_turn k)
first_of q k zero some passes = absurd (omega arith)
first_of q k (suc n) some passes = rw (passes 1) refl

-- the next turn passes, where there is one
next_of : (q : Stand → Bool) (k t a n : ℕ) → a ≤ t + 1 → ((j : ℕ) → q (stand k j) ≡ ltb t j)
    → find q (map (stand k) (range_with_len a n)) ≡ cond (ltb (t + 1) (a + n)) (Some (stand k (t + 1))) None
next_of q k t a zero past passes =
    let over : a + zero ≤ t + 1 = omega arith in
    rw (le-ltb (t + 1) (a + zero) over) refl
next_of q k t a (suc n) past passes =
    elim (cases_lt t a) [
      | inl behind ↦
          let here : a ≡ t + 1 = omega arith in
          let within : t + 1 < a + suc n = omega arith in
          rw (passes a, lt-ltb t a behind, lt-ltb (t + 1) (a + suc n) within) (ap (λ (j : ℕ). Some (stand k j)) here)
      | inr before ↦
          let same : a + suc n ≡ a + 1 + n = omega arith in
          rw (passes a, le-ltb t a before, same) (next_of q k t (a + 1) n (omega arith) passes)
    ]

-- ---- first turns

-- where a test tells servers only, and each that passes has a weight, the first stand that passes is a first turn
pub first_stands : (q : Stand → Bool) (p : ℕ → Bool) (k : ℕ) (servers : List ServerState)
    → ((i j : ℕ) → q (stand (k + i) j) ≡ p (k + i)) → ((i : ℕ) → p (k + i) ≡ true → 0 < weight_at servers i)
    → find q (stands_from k servers) ≡ option_map first_turn (find p (range_with_len k (length servers)))
first_stands q p k [] tells weighted = refl
first_stands q p k (x ∷ servers) tells weighted =
    let none : k + 0 ≡ k = omega arith in
    let here : (j : ℕ) → q (stand k j) ≡ p k = λ j. rw none at (tells 0 j) in
    let weighs : p k ≡ true → 0 < x.weight = rw none at (weighted 0) in
    let rest = first_stands q p (k + 1) servers
    (λ i j. let further : k + suc i ≡ k + 1 + i = omega arith in rw further at (tells (suc i) j))
    (λ i. let further : k + suc i ≡ k + 1 + i = omega arith in rw further at (weighted (suc i))) in
    find-append q (map (stand k) (range_with_len 1 x.weight)) (stands_from (k + 1) servers)
    ∙ elim (cases_Bool (p k)) [
      | inl holds ↦ rw (first_of q k x.weight (weighs holds) (λ j. here j ∙ holds), holds) refl
      | inr fails ↦ rw (none_of q k 1 x.weight (λ j. here j ∙ fails), fails) rest
    ]

-- ---- behind a stand

-- the stand is behind the cursor, and its server is a candidate
abbrev pub candidate_behind : Stand → (ℕ → Bool) → Stand → Bool
candidate_behind cursor p s = is_behind (Some cursor) s && p s.server

-- the next turn of the cursor's server, where it is a candidate and has one
abbrev pub next_turn : Stand → (ℕ → Bool) → ℕ → Option Stand
next_turn cursor p weight = cond (p cursor.server && ltb cursor.turn weight) (Some (stand cursor.server (cursor.turn + 1))) None

-- the stands of the cursor's own server
own_turn : (cursor : Stand) (p : ℕ → Bool) (k w : ℕ) → cursor.server ≡ k → ((j : ℕ) → is_behind (Some cursor) (stand k j) ≡ ltb cursor.turn j)
    → find (candidate_behind cursor p) (map (stand k) (range_with_len 1 w)) ≡ next_turn cursor p w
own_turn cursor p k w here own = elim (cases_Bool (p k)) [
  | inl holds ↦
      let passes : (j : ℕ) → candidate_behind cursor p (stand k j) ≡ ltb cursor.turn j =
      λ j. ap (λ (b : Bool). b && p k) (own j) ∙ (ap (λ (b : Bool). ltb cursor.turn j && b) holds ∙ and-true (ltb cursor.turn j)) in
      next_of (candidate_behind cursor p) k cursor.turn 1 w (omega arith) passes
      ∙ (sooner cursor.turn w (Some (stand k (cursor.turn + 1)))
      ∙ (ap (λ (n : ℕ). cond (ltb cursor.turn w) (Some (stand n (cursor.turn + 1))) None) (sym here)
      ∙ sym (ap (λ (b : Bool). cond (b && ltb cursor.turn w) (Some (stand cursor.server (cursor.turn + 1))) None) (ap p here ∙ holds))))
  | inr fails ↦
      let none : (j : ℕ) → candidate_behind cursor p (stand k j) ≡ false =
      λ j. and_right (is_behind (Some cursor) (stand k j)) (p k) fails in
      none_of (candidate_behind cursor p) k 1 w none
      ∙ sym (ap (λ (b : Bool). cond (b && ltb cursor.turn w) (Some (stand cursor.server (cursor.turn + 1))) None) (ap p here ∙ fails))
]
  where
    sooner : (t n : ℕ) (o : Option Stand) → cond (ltb (t + 1) (1 + n)) o None ≡ cond (ltb t n) o None
    sooner t n o = elim (cases_lt t n) [
      | inl less ↦ rw (lt-ltb t n less, lt-ltb (t + 1) (1 + n) (omega arith)) refl
      | inr more ↦ rw (le-ltb t n more, le-ltb (t + 1) (1 + n) (omega arith)) refl
    ]

pub stands_behind : (cursor : Stand) (p : ℕ → Bool) (d k : ℕ) (servers : List ServerState) → cursor.server ≡ k + d
    → ((i : ℕ) → p (k + i) ≡ true → 0 < weight_at servers i)
    → find (candidate_behind cursor p) (stands_from k servers)
    ≡ option_or (next_turn cursor p (weight_at servers d))
    (option_map first_turn (find p (range_with_len (cursor.server + 1) (length servers - (d + 1)))))
stands_behind cursor p d k [] at weighted =
    let none : 0 - (d + 1) ≡ 0 = omega arith in
    rw (none, le-ltb cursor.turn 0 (omega arith)) (go (p cursor.server))
  where
    go : (b : Bool) → None ≡ option_or (cond (b && false) (Some (stand cursor.server (cursor.turn + 1))) None) None
    go true = refl
    go false = refl
stands_behind cursor p zero k (x ∷ servers) at weighted =
    let here : cursor.server ≡ k = omega arith in
    let many : suc (length servers) - (zero + 1) ≡ length servers = omega arith in
    let q = candidate_behind cursor p in
    let own : (j : ℕ) → is_behind (Some cursor) (stand k j) ≡ ltb cursor.turn j =
    λ j. rw (le-ltb cursor.server k (omega arith), eq-eqb cursor.server k here) refl in
    let rest = first_stands q p (k + 1) servers
    (λ i j. rw (lt-ltb cursor.server (k + 1 + i) (omega arith)) refl)
    (λ i. let further : k + suc i ≡ k + 1 + i = omega arith in rw further at (weighted (suc i))) in
    let start : k + 1 ≡ cursor.server + 1 = omega arith in
    find-append q (map (stand k) (range_with_len 1 x.weight)) (stands_from (k + 1) servers)
    ∙ rw (many, rest, start) (ap (λ (o : Option Stand). option_or o (option_map first_turn (find p (range_with_len (cursor.server + 1) (length servers))))) (
    own_turn cursor p k x.weight here own
    ))
stands_behind cursor p (suc d) k (x ∷ servers) at weighted =
    let many : suc (length servers) - (suc d + 1) ≡ length servers - (d + 1) = omega arith in
    let q = candidate_behind cursor p in
    let other : (j : ℕ) → q (stand k j) ≡ false =
    λ j. rw (le-ltb cursor.server k (omega arith), ne_eqb cursor.server k (λ same. omega arith)) refl in
    find-append q (map (stand k) (range_with_len 1 x.weight)) (stands_from (k + 1) servers)
    ∙ rw (none_of q k 1 x.weight other, many)
    (stands_behind cursor p d (k + 1) servers (omega arith)
    (λ i. let further : k + suc i ≡ k + 1 + i = omega arith in rw further at (weighted (suc i))))
