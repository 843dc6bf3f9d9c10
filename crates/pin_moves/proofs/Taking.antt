-- Lists in rising order of kind, of each of which the first are used up first: where the first with some left stands, and what
-- is left once some are taken from it.
use Rattle.std.proofs.Common.{◌≡◌, ◌⊎◌, ◌≢◌, ℕ, zero, suc, ◌+◌, ◌-◌, ◌<◌, ◌≤◌, Bool, true, false, ◌&&◌, ◌||◌, eqb, cond, Option, List, [], ◌∷◌, length, get_or, set, refl, sym, ap, ◌∙◌, inl, inr, arith}
use Rattle.std.specs.List.{sum_by, AllPairs}
use Rattle.std.specs.List.Sorted.{IsPartitionedBy}
use Rattle.std.proofs.lemmas.Bool.{eqb-true, and_parts, or_cases, or_left, or_right, cases_eq, cases_lt}
use Rattle.std.proofs.lemmas.List.{length-set, get_or_default, get_or-set_same, get_or-set_other}
use Rattle.std.proofs.lemmas.List.Sums.{sum_by-cons, sum_by-set}
use Rattle.lb_types_pins.specs.declared.kind.PinKind.{PinKind}
use Rattle.lb_types_pins.specs.declared.kind.Row.{Row}
use Rattle.lb_types_pins.specs.Kinds.{kind_before, same_kind, place_before, row_before}
use Rattle.lb_types_pins.proofs.Order.{same_kind-true, same_kind-refl, kind_before-trans, kind_before-irrefl, row_earlier}
use Rattle.pin_moves.specs.Leftovers.{AreInOrder, GoesBehind}

one_if : Bool → ℕ
one_if b = cond b 1 0

pub both : (b : Bool) → b ≡ false → b ≡ true → 1 ≤ 0
unfolding one_if
both b is_false is_true = let e : one_if true ≡ one_if false = ap one_if (sym is_true ∙ is_false) in omega (arith, e)

pub decided : (b : Bool) → (b ≡ false → 1 ≤ 0) → b ≡ true
decided true never = refl
decided false never = absurd (omega (arith, never refl))

pub refuted : (b : Bool) → (b ≡ true → 1 ≤ 0) → b ≡ false
refuted true never = absurd (omega (arith, never refl))
refuted false never = refl

-- ---- the first that has some left

pub record AreOrdered {X : Type 0} (key : X → PinKind) (count : X → ℕ) (xs : List X) : Type 0 where
  pub rising : AllPairs (λ a b. (kind_before (key a) (key b) ≡ true) ⊎ (key a ≡ key b)) xs
  pub used : AllPairs (λ a b. key a ≡ key b → 1 ≤ count a → 1 ≤ count b) xs

-- it stands before what is left of the kind
abbrev pub passed : {X : Type 0} → (X → PinKind) → (X → ℕ) → PinKind → X → Bool
passed key count kind x = kind_before (key x) kind || (same_kind (key x) kind && eqb (count x) 0)

-- what is left of the kind
abbrev pub left_of : {X : Type 0} → (X → PinKind) → (X → ℕ) → PinKind → X → ℕ
left_of key count kind x = cond (same_kind kind (key x)) (count x) 0

nothing_from : (m n : ℕ) → n ≡ 0 → (1 ≤ m → 1 ≤ n) → eqb m 0 ≡ true
nothing_from zero n none implies = refl
nothing_from (suc m) n none implies = absurd (omega (arith, implies (omega arith)))

passed_earlier : {X : Type 0} (key : X → PinKind) (count : X → ℕ) (kind : PinKind) (a b : X)
    → (kind_before (key a) (key b) ≡ true) ⊎ (key a ≡ key b) → (key a ≡ key b → 1 ≤ count a → 1 ≤ count b)
    → passed key count kind b ≡ true → passed key count kind a ≡ true
passed_earlier key count kind a b rising used before =
    elim (or_cases (kind_before (key b) kind) (same_kind (key b) kind && eqb (count b) 0) before) [
      | inl earlier ↦ or_left (kind_before (key a) kind) (same_kind (key a) kind && eqb (count a) 0) (elim rising [
        | inl ab ↦ kind_before-trans (key a) (key b) kind ab earlier
        | inr same ↦ rw same earlier
      ])
      | inr rest ↦
          let parts = and_parts (same_kind (key b) kind) (eqb (count b) 0) rest in
          elim rising [
            | inl ab ↦
                let alike : key b ≡ kind = same_kind-true (key b) kind parts.0 in
                or_left (kind_before (key a) kind) (same_kind (key a) kind && eqb (count a) 0) (ap (kind_before (key a)) (sym alike) ∙ ab)
            | inr same ↦
                let none : eqb (count a) 0 ≡ true = nothing_from (count a) (count b) (eqb-true _ _ parts.1) (used same) in
                let is_kind : same_kind (key a) kind ≡ true = ap (λ (k : PinKind). same_kind k kind) same ∙ parts.0 in
                let rest_a : (same_kind (key a) kind && eqb (count a) 0) ≡ true = rw (is_kind, none) refl in
                or_right (kind_before (key a) kind) (same_kind (key a) kind && eqb (count a) 0) rest_a
          ]
    ]

pub partitioned : {X : Type 0} (key : X → PinKind) (count : X → ℕ) (xs : List X) (kind : PinKind) → AreOrdered key count xs
    → IsPartitionedBy (passed key count kind) xs
partitioned key count xs kind ordered i j d within below before =
    elim (cases_eq i j) [
      | inl same ↦ rw same before
      | inr other ↦
          passed_earlier key count kind (get_or xs i d) (get_or xs j d) (ordered.rising i j d (omega arith) below)
          (ordered.used i j d (omega arith) below) before
    ]

nothing_here : (b : Bool) (n : ℕ) → (b ≡ true → n ≡ 0) → cond b n 0 ≡ 0
nothing_here true n none = none refl
nothing_here false n none = refl

-- nothing is left of a kind where all of it is used up
none_left : {X : Type 0} (key : X → PinKind) (count : X → ℕ) (kind : PinKind) (xs : List X)
    → ((k : ℕ) (d : X) → k < length xs → key (get_or xs k d) ≡ kind → count (get_or xs k d) ≡ 0)
    → sum_by (left_of key count kind) xs ≡ 0
none_left key count kind [] none = refl
none_left key count kind (x ∷ xs) none =
    let here : left_of key count kind x ≡ 0 =
    nothing_here (same_kind kind (key x)) (count x) (λ same. none 0 x (omega arith) (sym (same_kind-true kind (key x) same))) in
    let rest = none_left key count kind xs (λ k d below. none (suc k) d (omega arith)) in
    omega (arith, sum_by-cons (left_of key count kind) x xs)

used_of : {X : Type 0} (key : X → PinKind) (count : X → ℕ) (kind : PinKind) (x : X)
    → passed key count kind x ≡ true → key x ≡ kind → count x ≡ 0
used_of key count kind x before same =
    elim (or_cases (kind_before (key x) kind) (same_kind (key x) kind && eqb (count x) 0) before) [
      | inl earlier ↦
          let itself : kind_before kind kind ≡ true = ap (λ (k : PinKind). kind_before k kind) (sym same) ∙ earlier in
          absurd (omega (arith, both (kind_before kind kind) (kind_before-irrefl kind) itself))
      | inr rest ↦ eqb-true _ _ (and_parts (same_kind (key x) kind) (eqb (count x) 0) rest).1
    ]

-- the first that has some of the kind left
pub record IsFirstLeft {X : Type 0} (key : X → PinKind) (count : X → ℕ) (xs : List X) (kind : PinKind) (at : ℕ) : Type 0 where
  pub within : at < length xs
  pub same : (d : X) → key (get_or xs at d) ≡ kind
  pub some : (d : X) → 1 ≤ count (get_or xs at d)
  pub first : (k : ℕ) (d : X) → k < at → key (get_or xs k d) ≡ kind → count (get_or xs k d) ≡ 0

some_of : (b c : Bool) (n : ℕ) → (b || (c && eqb n 0)) ≡ false → c ≡ true → 1 ≤ n
some_of b true zero later same = absurd (omega (arith, both (b || true) later (or_right b true refl)))
some_of b c (suc n) later same = omega arith
some_of b false zero later same = absurd (omega (arith, both false refl same))

pub found : {X : Type 0} (key : X → PinKind) (count : X → ℕ) (xs : List X) (kind : PinKind) (at : ℕ) → AreOrdered key count xs
    → ((k : ℕ) (d : X) → k < at → passed key count kind (get_or xs k d) ≡ true)
    → ((k : ℕ) (d : X) → at ≤ k → k < length xs → passed key count kind (get_or xs k d) ≡ false)
    → 1 ≤ sum_by (left_of key count kind) xs → IsFirstLeft key count xs kind at
found {X} key count xs kind at ordered before behind some =
    let inside : at < length xs = elim (cases_lt at (length xs)) [
      | inl below ↦ below
      | inr past ↦
          let none = none_left key count kind xs (λ k d below. used_of key count kind (get_or xs k d) (before k d (omega arith))) in
          absurd (omega arith)
    ] in
    let is_one : (e : X) → same_kind kind (key (get_or xs at e)) ≡ true =
    λ e. decided (same_kind kind (key (get_or xs at e))) (λ other.
    let none = none_left key count kind xs (λ k d below same. elim (cases_lt k at) [
      | inl low ↦ used_of key count kind (get_or xs k d) (before k d low) same
      | inr from ↦ absurd (omega (arith, never e other k d from below same))
    ]) in
    omega arith) in
    record {
      within = inside;
      same = λ d. sym (same_kind-true kind (key (get_or xs at d)) (is_one d));
      some = λ d.
          let alike : key (get_or xs at d) ≡ kind = sym (same_kind-true kind (key (get_or xs at d)) (is_one d)) in
          some_of (kind_before (key (get_or xs at d)) kind) (same_kind (key (get_or xs at d)) kind) (count (get_or xs at d))
          (behind at d (omega arith) inside) (ap (same_kind (key (get_or xs at d))) (sym alike) ∙ same_kind-refl (key (get_or xs at d)));
      first = λ k d low same. used_of key count kind (get_or xs k d) (before k d low) same;
    }
  where
    -- the kind doesn't come behind one that is no longer before it and isn't of it
    never : (e : X) → same_kind kind (key (get_or xs at e)) ≡ false → (k : ℕ) (d : X) → at ≤ k → k < length xs
        → key (get_or xs k d) ≡ kind → 1 ≤ 0
    never e other k d from below same =
        let there = ap (λ (x : X). same_kind kind (key x)) (get_or_default xs at d e (omega arith)) ∙ other in
        elim (cases_eq at k) [
          | inl here ↦
              let itself : same_kind kind (key (get_or xs at d)) ≡ true =
              ap (λ n. same_kind kind (key (get_or xs n d))) here ∙ (ap (same_kind kind) same ∙ same_kind-refl kind) in
              both (same_kind kind (key (get_or xs at d))) there itself
          | inr past ↦ elim (ordered.rising at k d (omega arith) below) [
            | inl earlier ↦
                let a = get_or xs at d in
                both (passed key count kind a) (behind at d (omega arith) (omega arith))
                (or_left (kind_before (key a) kind) (same_kind (key a) kind && eqb (count a) 0) (ap (kind_before (key a)) (sym same) ∙ earlier))
            | inr alike ↦
                both (same_kind kind (key (get_or xs at d))) there (ap (same_kind kind) (alike ∙ same) ∙ same_kind-refl kind)
          ]
        ]

-- ---- one is changed

pub pairs_set : {X : Type 0} (R : X → X → Type 0) (xs : List X) (at : ℕ) (y : X) → at < length xs
    → ((k : ℕ) (d : X) → k < at → R (get_or xs k d) y)
    → ((k : ℕ) (d : X) → at < k → k < length xs → R y (get_or xs k d)) → AllPairs R xs → AllPairs R (set xs at y)
pairs_set {X} R xs at y within before behind all i j d below inside =
    let long = length-set xs at y in
    elim (cases_eq i at) [
      | inl here ↦
          let there : j ≢ at = λ e. absurd (omega arith) in
          rw (changed i here, get_or-set_other xs at j y d there) (behind j d (omega arith) (omega arith))
      | inr other ↦ elim (cases_eq j at) [
        | inl here ↦ rw (changed j here, get_or-set_other xs at i y d other) (before i d (omega arith))
        | inr there ↦ rw (get_or-set_other xs at i y d other, get_or-set_other xs at j y d there) (all i j d below (omega arith))
      ]
    ]
  where
    changed : (k : ℕ) → k ≡ at → get_or (set xs at y) k d ≡ y
    changed k here = ap (λ n. get_or (set xs at y) n d) here ∙ get_or-set_same xs at y d within

-- ---- rows

pub ordered_rows : (left : List Row) → AreInOrder left → AreOrdered (λ (r : Row). r.kind) (λ (r : Row). r.count) left
ordered_rows left order = record {
  rising = λ i j d below inside. elim (row_earlier (get_or left i d) (get_or left j d) (order.rising i j d below inside)) [
    | inl earlier ↦ inl earlier
    | inr same ↦ inr same.0
  ];
  used = order.used;
}

-- the row with fewer pins
abbrev pub less : Row → ℕ → Row
less row n = record { kind = row.kind; new_place = row.new_place; count = row.count - n }

pub order_less : (left : List Row) (kind : PinKind) (at n : ℕ) (row : Row) → AreInOrder left
    → IsFirstLeft (λ (r : Row). r.kind) (λ (r : Row). r.count) left kind at → row ≡ get_or left at row → AreInOrder (set left at (less row n))
order_less left kind at n row order first is = record {
  rising = pairs_set (λ a b. row_before a b ≡ true) left at (less row n) first.within
      (λ k d low. ap (λ (r : Row). row_before (get_or left k d) r) (read d) ∙ order.rising k at d low first.within)
      (λ k d high below. ap (λ (r : Row). row_before r (get_or left k d)) (read d) ∙ order.rising at k d high below) order.rising;
  used = pairs_set (λ a b. a.kind ≡ b.kind → 1 ≤ a.count → 1 ≤ b.count) left at (less row n) first.within
      (λ k d low same some. absurd (omega (arith, first.first k d low (same ∙ of_kind))))
      (λ k d high below same some.
      let there = order.used at k d high below (ap (λ (r : Row). r.kind) (sym (read d)) ∙ same) in
      there (omega (arith, ap (λ (r : Row). r.count) (read d)))) order.used;
}
  where
    read : (d : Row) → row ≡ get_or left at d
    read d = is ∙ get_or_default left at row d first.within

    of_kind : row.kind ≡ kind
    of_kind = ap (λ (r : Row). r.kind) is ∙ first.same row

split_count : (b : Bool) (m n : ℕ) → n ≤ m → cond b (m - n) 0 + cond b n 0 ≡ cond b m 0
split_count true m n enough = omega arith
split_count false m n enough = refl

-- what is left of some kinds and new places, once pins are taken out of a row
pub sum_less : (test : PinKind → Option ℕ → Bool) (left : List Row) (at n : ℕ) (row : Row) → at < length left → row ≡ get_or left at row
    → n ≤ row.count
    → sum_by (λ (r : Row). cond (test r.kind r.new_place) r.count 0) (set left at (less row n)) + cond (test row.kind row.new_place) n 0
    ≡ sum_by (λ (r : Row). cond (test r.kind r.new_place) r.count 0) left
sum_less test left at n row within is enough =
    let f : Row → ℕ = λ r. cond (test r.kind r.new_place) r.count 0 in
    let all = sum_by-set f left at (less row n) row within in
    let here = ap f is in
    let parts = split_count (test row.kind row.new_place) row.count n enough in
    omega arith

-- what goes to later places still does
pub behind_less : (left : List Row) (kind : PinKind) (at n : ℕ) (row : Row) (place : Option ℕ) → at < length left → row ≡ get_or left at row
    → GoesBehind left kind place → GoesBehind (set left at (less row n)) kind place
behind_less left kind at n row place within is goes k d below same some =
    elim (cases_eq k at) [
      | inl here ↦ changed here
      | inr other ↦
          let e = get_or-set_other left at k (less row n) d other in
          rw e (goes k d (omega (arith, length-set left at (less row n))) (ap (λ (r : Row). r.kind) (sym e) ∙ same) (omega (arith, ap (λ (r : Row). r.count) e)))
    ]
  where
    changed : k ≡ at → place_before place (get_or (set left at (less row n)) k d).new_place ≡ true
    changed here =
        let e : get_or (set left at (less row n)) k d ≡ less row n =
        ap (λ m. get_or (set left at (less row n)) m d) here ∙ get_or-set_same left at (less row n) d within in
        let read : row ≡ get_or left at d = is ∙ get_or_default left at row d within in
        let old = goes at d within (ap (λ (r : Row). r.kind) (sym read) ∙ (ap (λ (r : Row). r.kind) (sym e) ∙ same))
        (omega (arith, ap (λ (r : Row). r.count) read, ap (λ (r : Row). r.count) e)) in
        rw e (ap (λ (r : Row). place_before place r.new_place) read ∙ old)

-- a row that is used up has only later ones of its kind behind it
pub behind_used : (left : List Row) (kind : PinKind) (at n : ℕ) (row : Row) → AreInOrder left
    → IsFirstLeft (λ (r : Row). r.kind) (λ (r : Row). r.count) left kind at → row ≡ get_or left at row → row.count ≤ n
    → GoesBehind (set left at (less row n)) kind row.new_place
behind_used left kind at n row order first is all k d below same some =
    elim (cases_eq k at) [
      | inl here ↦ absurd (omega (arith, ap (λ (r : Row). r.count) (changed here)))
      | inr other ↦
          let e = get_or-set_other left at k (less row n) d other in
          rw e (rest other (omega (arith, length-set left at (less row n))) (ap (λ (r : Row). r.kind) (sym e) ∙ same) (omega (arith, ap (λ (r : Row). r.count) e)))
    ]
  where
    changed : k ≡ at → get_or (set left at (less row n)) k d ≡ less row n
    changed here = ap (λ m. get_or (set left at (less row n)) m d) here ∙ get_or-set_same left at (less row n) d first.within

    rest : k ≢ at → k < length left → (get_or left k d).kind ≡ kind → 1 ≤ (get_or left k d).count
        → place_before row.new_place (get_or left k d).new_place ≡ true
    rest other inside alike more = elim (cases_lt k at) [
      | inl low ↦ absurd (omega (arith, first.first k d low alike))
      | inr from ↦
          let read : row ≡ get_or left at d = is ∙ get_or_default left at row d first.within in
          elim (row_earlier (get_or left at d) (get_or left k d) (order.rising at k d (omega arith) inside)) [
            | inl earlier ↦
                let itself : kind_before kind kind ≡ true =
                ap (λ (x : PinKind). kind_before x kind) (sym (first.same d)) ∙ (ap (kind_before (get_or left at d).kind) (sym alike) ∙ earlier) in
                absurd (omega (arith, both (kind_before kind kind) (kind_before-irrefl kind) itself))
            | inr later ↦ ap (λ (r : Row). place_before r.new_place (get_or left k d).new_place) read ∙ later.1
          ]
    ]
