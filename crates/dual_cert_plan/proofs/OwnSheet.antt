-- The sheet that a plan speaks of keeps what every sheet keeps, and has each kind's pins.
use Rattle.std.proofs.Common.{◌≡◌, ℕ, ◌+◌, ◌*◌, ◌≤◌, Bool, true, false, cond, List, [], ◌∷◌, refl, ap, sym, ◌∙◌, inl, inr, ◌⊎◌, arith}
use Rattle.std.specs.List.{All, AllPairs, sum_by}
use Rattle.std.proofs.lemmas.List.Elements.{All-nil, All-cons, All-head, All-tail, All-weaker}
use Rattle.std.proofs.lemmas.List.Sums.{sum_by-cons}
use Rattle.lb_types_pins.specs.declared.kind.PinKind.{PinKind}
use Rattle.lb_types_pins.specs.declared.kind.Group.{Group}
use Rattle.lb_types_pins.specs.declared.kind.Row.{Row}
use Rattle.lb_types_pins.specs.Kinds.{same_kind, kind_before, row_before}
use Rattle.lb_types_pins.proofs.Order.{kind_before-trans, same_kind-true, same_kind-refl, row_earlier}
use Rattle.lb_types_pins.proofs.Pairs.{AllPairs-nil, AllPairs-cons, AllPairs-head, AllPairs-tail}
use Rattle.dual_cert_plan.specs.Sheets.{IsSheet, IsKind}
use Rattle.dual_cert_plan.specs.Plans.{PlanParts, IsPlan, servers_of, group_of, grown, with_group, groups_of, own_sheet, pins_in_groups, pins_in_rows}

-- what holds of each row's kind holds of each group's
abbrev HasKind : (PinKind → Type 0) → Group → Type 0
HasKind P group = P group.kind

All-with_group : (P : PinKind → Type 0) (g : Group) (gs : List Group) → P g.kind → All (HasKind P) gs → All (HasKind P) (with_group g gs)
All-with_group P g [] holds all = All-cons (HasKind P) g [] holds all
All-with_group P g (next ∷ gs) holds all =
    elim (same_kind g.kind next.kind) as (λ b. All (HasKind P) (cond b (grown g next.count ∷ gs) (g ∷ (next ∷ gs)))) [
      | true ↦ All-cons (HasKind P) (grown g next.count) gs holds (All-tail (HasKind P) next gs all)
      | false ↦ All-cons (HasKind P) g (next ∷ gs) holds all
    ]

pub kinds-groups_of : (P : PinKind → Type 0) (rows : List Row) → All (λ r. P r.kind) rows → All (λ g. P g.kind) (groups_of rows)
unfolding groups_of
kinds-groups_of P [] all = All-nil (HasKind P)
kinds-groups_of P (r ∷ rows) all =
    All-with_group P (group_of r) (groups_of rows) (All-head (λ (r : Row). P r.kind) r rows all) (kinds-groups_of P rows (All-tail (λ (r : Row). P r.kind) r rows all))

-- ---- in strictly rising order

abbrev Rising : Group → Group → Type 0
Rising a b = kind_before a.kind b.kind ≡ true

abbrev RisingRows : Row → Row → Type 0
RisingRows a b = row_before a b ≡ true

-- the kind is the group's, or comes before it
abbrev AtMost : PinKind → PinKind → Type 0
AtMost kind other = (kind ≡ other) ⊎ (kind_before kind other ≡ true)

AtMost-trans : (a b c : PinKind) → AtMost a b → kind_before b c ≡ true → kind_before a c ≡ true
AtMost-trans a b c (inl same) before = rw same before
AtMost-trans a b c (inr first) before = kind_before-trans a b c first before

Rising-with_group : (g : Group) (gs : List Group) → All (HasKind (AtMost g.kind)) gs → AllPairs Rising gs → AllPairs Rising (with_group g gs)
Rising-with_group g [] low rising = AllPairs-cons Rising g [] (All-nil (Rising g)) rising
Rising-with_group g (next ∷ gs) low rising =
    let split : (b : Bool) → same_kind g.kind next.kind ≡ b → AllPairs Rising (cond b (grown g next.count ∷ gs) (g ∷ (next ∷ gs))) =
    λ b. elim b as (λ b. same_kind g.kind next.kind ≡ b → AllPairs Rising (cond b (grown g next.count ∷ gs) (g ∷ (next ∷ gs)))) [
      | true ↦ λ e. joined (same_kind-true g.kind next.kind e)
      | false ↦ λ e. apart e
    ] in
    split (same_kind g.kind next.kind) refl
  where
    later : AllPairs Rising gs
    later = AllPairs-tail Rising next gs rising

    joined : g.kind ≡ next.kind → AllPairs Rising (grown g next.count ∷ gs)
    joined same =
        let above : All (HasKind (λ k. kind_before g.kind k ≡ true)) gs = rw same (AllPairs-head Rising next gs rising) in
        AllPairs-cons Rising (grown g next.count) gs above later

    before : same_kind g.kind next.kind ≡ false → AtMost g.kind next.kind → kind_before g.kind next.kind ≡ true
    before other (inl same) = let e : same_kind g.kind next.kind ≡ true = rw same (same_kind-refl next.kind) in absurd cc
    before other (inr first) = first

    apart : same_kind g.kind next.kind ≡ false → AllPairs Rising (g ∷ (next ∷ gs))
    apart other =
        let first = before other (All-head (HasKind (AtMost g.kind)) next gs low) in
        let above : All (Rising g) gs = All-weaker (Rising next) (Rising g) (λ h after. kind_before-trans g.kind next.kind h.kind first after) gs (AllPairs-head Rising next gs rising) in
        AllPairs-cons Rising g (next ∷ gs) (All-cons (Rising g) next gs first above) rising

rising_groups : (rows : List Row) → AllPairs RisingRows rows → AllPairs Rising (groups_of rows)
unfolding groups_of
rising_groups [] rising = AllPairs-nil Rising
rising_groups (r ∷ rows) rising =
    Rising-with_group (group_of r) (groups_of rows) (kinds-groups_of (AtMost r.kind) rows low) (rising_groups rows (AllPairs-tail RisingRows r rows rising))
  where
    at_most : (later : Row) → row_before r later ≡ true → AtMost r.kind later.kind
    at_most later before = elim (row_earlier r later before) [ inl kinds ↦ inr kinds | inr same ↦ inl same.0 ]

    low : All (λ later. AtMost r.kind later.kind) rows
    low = All-weaker (RisingRows r) (λ later. AtMost r.kind later.kind) at_most rows (AllPairs-head RisingRows r rows rising)

-- ---- what the groups count

-- a sum over the pins of groups, by their kind
abbrev weighed : (PinKind → ℕ) → Group → ℕ
weighed f g = g.count * f g.kind

abbrev weighed_row : (PinKind → ℕ) → Row → ℕ
weighed_row f r = r.count * f r.kind

sum-with_group : (f : PinKind → ℕ) (g : Group) (gs : List Group) → sum_by (weighed f) (with_group g gs) ≡ weighed f g + sum_by (weighed f) gs
sum-with_group f g [] = sum_by-cons (weighed f) g []
sum-with_group f g (next ∷ gs) =
    let split : (b : Bool) → same_kind g.kind next.kind ≡ b → sum_by (weighed f) (cond b (grown g next.count ∷ gs) (g ∷ (next ∷ gs))) ≡ weighed f g + sum_by (weighed f) (next ∷ gs) =
    λ b. elim b as (λ b. same_kind g.kind next.kind ≡ b → sum_by (weighed f) (cond b (grown g next.count ∷ gs) (g ∷ (next ∷ gs))) ≡ weighed f g + sum_by (weighed f) (next ∷ gs)) [
      | true ↦ λ e.
          let same : f g.kind ≡ f next.kind = ap f (same_kind-true g.kind next.kind e) in
          let whole = sum_by-cons (weighed f) next gs in
          let joined = sum_by-cons (weighed f) (grown g next.count) gs in
          rw (joined, whole, ← same) (omega arith)
      | false ↦ λ e. sum_by-cons (weighed f) g (next ∷ gs)
    ] in
    split (same_kind g.kind next.kind) refl

-- a sum over the pins of rows by their kind is the sum over the pins of their groups
pub sum-groups_of : (f : PinKind → ℕ) (rows : List Row) → sum_by (weighed f) (groups_of rows) ≡ sum_by (weighed_row f) rows
unfolding groups_of
sum-groups_of f [] = refl
sum-groups_of f (r ∷ rows) =
    let rest = sum-groups_of f rows in
    let both = sum-with_group f (group_of r) (groups_of rows) in
    let first = sum_by-cons (weighed_row f) r rows in
    rw (both, first, rest) refl

-- ---- one row more, as a walk over the rows meets it

pub with_group-same : (g : Group) (r : Row) (gs : List Group) → same_kind g.kind r.kind ≡ true → with_group g (with_group (group_of r) gs) ≡ with_group (grown g r.count) gs
with_group-same g r [] same = rw same refl
with_group-same g r (next ∷ gs) same =
    let alike : g.kind ≡ r.kind = same_kind-true g.kind r.kind same in
    let onwards : same_kind g.kind next.kind ≡ same_kind r.kind next.kind = rw alike refl in
    let split : (b : Bool) → with_group g (cond b (grown (group_of r) next.count ∷ gs) (group_of r ∷ (next ∷ gs))) ≡ cond b (grown (grown g r.count) next.count ∷ gs) (grown g r.count ∷ (next ∷ gs)) =
    λ b. elim b as (λ b. with_group g (cond b (grown (group_of r) next.count ∷ gs) (group_of r ∷ (next ∷ gs))) ≡ cond b (grown (grown g r.count) next.count ∷ gs) (grown g r.count ∷ (next ∷ gs))) [
      | true ↦ let sums : g.count + (r.count + next.count) ≡ g.count + r.count + next.count = omega arith in rw (same, sums) refl
      | false ↦ rw same refl
    ] in
    rw onwards (split (same_kind r.kind next.kind))

pub with_group-other : (g : Group) (r : Row) (gs : List Group) → same_kind g.kind r.kind ≡ false → with_group g (with_group (group_of r) gs) ≡ g ∷ with_group (group_of r) gs
with_group-other g r [] other = rw other refl
with_group-other g r (next ∷ gs) other =
    let split : (b : Bool) → with_group g (cond b (grown (group_of r) next.count ∷ gs) (group_of r ∷ (next ∷ gs))) ≡ g ∷ cond b (grown (group_of r) next.count ∷ gs) (group_of r ∷ (next ∷ gs)) =
    λ b. elim b as (λ b. with_group g (cond b (grown (group_of r) next.count ∷ gs) (group_of r ∷ (next ∷ gs))) ≡ g ∷ cond b (grown (group_of r) next.count ∷ gs) (group_of r ∷ (next ∷ gs))) [
      | true ↦ rw other refl
      | false ↦ rw other refl
    ] in
    split (same_kind r.kind next.kind)

-- a sum of equal terms
sum_by-same : {X : Type 0} (f g : X → ℕ) → ((x : X) → f x ≡ g x) → (xs : List X) → sum_by f xs ≡ sum_by g xs
sum_by-same f g same [] = refl
sum_by-same f g same (x ∷ xs) =
    let rest = sum_by-same f g same xs in
    let here = same x in
    let on_f = sum_by-cons f x xs in
    let on_g = sum_by-cons g x xs in
    omega arith

-- a count where a test passes is the count times one, and else times none
one_if : Bool → ℕ
one_if b = cond b 1 0

counted-if : (b : Bool) (n : ℕ) → cond b n 0 ≡ n * one_if b
unfolding one_if
counted-if true n = omega arith
counted-if false n = omega arith

pub pins-groups_of : (kind : PinKind) (rows : List Row) → pins_in_groups kind (groups_of rows) ≡ pins_in_rows kind rows
pins-groups_of kind rows =
    sum_by-same (λ (g : Group). cond (same_kind kind g.kind) g.count 0) (weighed f) (λ g. counted-if (same_kind kind g.kind) g.count) (groups_of rows)
    ∙ sum-groups_of f rows
    ∙ sym (sum_by-same (λ (r : Row). cond (same_kind kind r.kind) r.count 0) (weighed_row f) (λ r. counted-if (same_kind kind r.kind) r.count) rows)
  where
    f : PinKind → ℕ
    f other = one_if (same_kind kind other)

pub total-groups_of : (rows : List Row) → sum_by (λ (g : Group). g.count) (groups_of rows) ≡ sum_by (λ (r : Row). r.count) rows
total-groups_of rows =
    sum_by-same (λ (g : Group). g.count) (weighed each) (λ g. omega arith) (groups_of rows)
    ∙ sum-groups_of each rows
    ∙ sym (sum_by-same (λ (r : Row). r.count) (weighed_row each) (λ r. omega arith) rows)
  where
    each : PinKind → ℕ
    each kind = 1

counted-groups_of : (rows : List Row) → All (λ r. 1 ≤ r.count) rows → All (λ g. 1 ≤ g.count) (groups_of rows)
unfolding groups_of
counted-groups_of [] all = All-nil (λ (g : Group). 1 ≤ g.count)
counted-groups_of (r ∷ rows) all =
    put (group_of r) (groups_of rows) (All-head (λ (r : Row). 1 ≤ r.count) r rows all) (counted-groups_of rows (All-tail (λ (r : Row). 1 ≤ r.count) r rows all))
  where
    put : (g : Group) (gs : List Group) → 1 ≤ g.count → All (λ g. 1 ≤ g.count) gs → All (λ g. 1 ≤ g.count) (with_group g gs)
    put g [] some rest = All-cons (λ (g : Group). 1 ≤ g.count) g [] some rest
    put g (next ∷ gs) some rest =
        elim (same_kind g.kind next.kind) as (λ b. All (λ g. 1 ≤ g.count) (cond b (grown g next.count ∷ gs) (g ∷ (next ∷ gs)))) [
          | true ↦ All-cons (λ (g : Group). 1 ≤ g.count) (grown g next.count) gs (omega arith) (All-tail (λ (g : Group). 1 ≤ g.count) next gs rest)
          | false ↦ All-cons (λ (g : Group). 1 ≤ g.count) g (next ∷ gs) some rest
        ]

-- the sheet that a plan speaks of keeps what every sheet keeps
pub own_sheet-lawful : (plan : PlanParts) → IsPlan plan → IsSheet (own_sheet plan)
unfolding own_sheet
own_sheet-lawful plan lawful = record {
  version = lawful.version;
  servers = lawful.servers;
  kinds = kinds-groups_of (IsKind (servers_of plan.servers)) plan.rows lawful.kinds;
  counted = counted-groups_of plan.rows lawful.counted;
  total = omega (arith, total-groups_of plan.rows, lawful.total);
  rising = rising_groups plan.rows lawful.rising;
}
