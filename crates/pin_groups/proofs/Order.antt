-- Groups stay in strictly rising order where one is put in at its place, or grows.
use Rattle.std.proofs.Common.{◌≡◌, ℕ, ◌+◌, ◌-◌, ◌<◌, ◌≤◌, Bool, true, false, cond, List, ◌∷◌, length, get_or, set, take, drop, refl, sym, ap, ◌∙◌, inl, inr, arith}
use Rattle.std.specs.List.{All, AllPairs, insert}
use Rattle.std.specs.List.Sorted.{IsPartitionedBy}
use Rattle.std.proofs.lemmas.Bool.{cases_eq, cases_lt}
use Rattle.std.proofs.lemmas.List.{get_or-set_same, get_or-set_other}
use Rattle.std.proofs.lemmas.List.Edits.{length-insert, get_or-insert_below, get_or-insert_at, get_or-insert_above}
use Rattle.std.proofs.lemmas.List.Elements.{All-append, All-cons, All-take, All-drop}
use Rattle.std.proofs.lemmas.List.Sums.{sum_by-insert, sum_by-set}
use Rattle.lb_types_pins.specs.declared.kind.PinKind.{PinKind}
use Rattle.lb_types_pins.specs.declared.kind.Group.{Group}
use Rattle.lb_types_pins.specs.Kinds.{kind_before, same_kind}
use Rattle.lb_types_pins.proofs.Order.{kind_before-trans, kind_before-total}
use Rattle.pin_set.specs.Rows.{count_in}
use Rattle.pin_groups.specs.Rising.{Before}

-- in rising groups none that stands before a kind comes after one that doesn't
pub rising_partitioned : (groups : List Group) (kind : PinKind) → AllPairs Before groups → IsPartitionedBy (λ g. kind_before g.kind kind) groups
rising_partitioned groups kind rising i j d within below before =
    elim (cases_eq i j) [
      | inl same ↦ rw same before
      | inr other ↦ kind_before-trans (get_or groups i d).kind (get_or groups j d).kind kind (rising i j d (omega arith) below) before
    ]

-- the groups from a place on stand after one that none of them stands before, if the first is of another kind
pub behind_place : (groups : List Group) (at : ℕ) (g d : Group) → AllPairs Before groups
    → ((k : ℕ) (e : Group) → at ≤ k → k < length groups → kind_before (get_or groups k e).kind g.kind ≡ false)
    → (at < length groups → same_kind (get_or groups at d).kind g.kind ≡ false)
    → (k : ℕ) → at ≤ k → k < length groups → Before g (get_or groups k d)
behind_place groups at g d rising later other k from below =
    let first : Before g (get_or groups at d) =
    kind_before-total (get_or groups at d).kind g.kind (later at d (omega arith) (omega arith)) (other (omega arith)) in
    elim (cases_eq at k) [
      | inl same ↦ rw (sym same) first
      | inr past ↦ kind_before-trans g.kind (get_or groups at d).kind (get_or groups k d).kind first (rising at k d (omega arith) below)
    ]

pub insert_rising : (groups : List Group) (at : ℕ) (g : Group) → at ≤ length groups → AllPairs Before groups
    → ((k : ℕ) (d : Group) → k < at → Before (get_or groups k d) g)
    → ((k : ℕ) (d : Group) → at ≤ k → k < length groups → Before g (get_or groups k d))
    → AllPairs Before (insert groups at g)
insert_rising groups at g within rising before behind i j d below inside =
    let long = length-insert groups at g within in
    elim (cases_lt j at) [
      | inl low ↦
          rw (get_or-insert_below groups at g d i (omega arith) within, get_or-insert_below groups at g d j low within)
          (rising i j d below (omega arith))
      | inr high ↦ elim (cases_eq j at) [
        | inl here ↦
            rw (here, get_or-insert_below groups at g d i (omega arith) within, get_or-insert_at groups at g d within) (before i d (omega arith))
        | inr past ↦
            let up : j - 1 + 1 ≡ j = omega arith in
            let last : get_or (insert groups at g) j d ≡ get_or groups (j - 1) d =
            ap (λ k. get_or (insert groups at g) k d) (sym up) ∙ get_or-insert_above groups at g d (j - 1) (omega arith) within in
            rw last (elim (cases_lt i at) [
              | inl low ↦ rw (get_or-insert_below groups at g d i low within) (rising i (j - 1) d (omega arith) (omega arith))
              | inr from ↦ elim (cases_eq i at) [
                | inl same ↦ rw (same, get_or-insert_at groups at g d within) (behind (j - 1) d (omega arith) (omega arith))
                | inr above ↦
                    let back : i - 1 + 1 ≡ i = omega arith in
                    let first : get_or (insert groups at g) i d ≡ get_or groups (i - 1) d =
                    ap (λ k. get_or (insert groups at g) k d) (sym back) ∙ get_or-insert_above groups at g d (i - 1) (omega arith) within in
                    rw first (rising (i - 1) (j - 1) d (omega arith) (omega arith))
              ]
            ])
      ]
    ]

pub insert_counted : (groups : List Group) (at : ℕ) (g : Group) → 1 ≤ g.count → All (λ h. 1 ≤ h.count) groups → All (λ h. 1 ≤ h.count) (insert groups at g)
insert_counted groups at g some counted =
    let P : Group → Type 0 = λ h. 1 ≤ h.count in
    All-append P (take at groups) (g ∷ drop at groups) (All-take P at groups counted) (All-cons P g (drop at groups) some (All-drop P at groups counted))

pub count_in-insert : (groups : List Group) (at : ℕ) (g : Group) (kind : PinKind)
    → count_in (insert groups at g) kind ≡ count_in groups kind + cond (same_kind kind g.kind) g.count 0
count_in-insert groups at g kind = sum_by-insert (λ h. cond (same_kind kind h.kind) h.count 0) groups at g

-- a group of the same kind in place of another keeps the kinds
kind-set : (groups : List Group) (at : ℕ) (g d : Group) → at < length groups → g.kind ≡ (get_or groups at d).kind
    → (k : ℕ) → (get_or (set groups at g) k d).kind ≡ (get_or groups k d).kind
kind-set groups at g d below same k =
    elim (cases_eq k at) [
      | inl here ↦ ap (λ n. (get_or (set groups at g) n d).kind) here ∙ (rw get_or-set_same same ∙ ap (λ n. (get_or groups n d).kind) (sym here))
      | inr other ↦ rw get_or-set_other refl
    ]

-- a group that grows
pub count_in-grown : (groups : List Group) (at : ℕ) (old : Group) (more : Group) (kind : PinKind) → at < length groups
    → old ≡ get_or groups at old → old.kind ≡ more.kind
    → count_in (set groups at (record { kind = old.kind; count = old.count + more.count })) kind
    ≡ count_in groups kind + cond (same_kind kind more.kind) more.count 0
count_in-grown groups at old more kind below is_old same =
    let f : Group → ℕ = λ h. cond (same_kind kind h.kind) h.count 0 in
    let grown : Group = record { kind = old.kind; count = old.count + more.count } in
    let all = sum_by-set f groups at grown old below in
    let before : f (get_or groups at old) ≡ f old = ap f (sym is_old) in
    let both : cond (same_kind kind old.kind) (old.count + more.count) 0 ≡ cond (same_kind kind old.kind) old.count 0 + cond (same_kind kind old.kind) more.count 0 =
    split_count (same_kind kind old.kind) old.count more.count in
    let same_test : cond (same_kind kind old.kind) more.count 0 ≡ cond (same_kind kind more.kind) more.count 0 = rw same refl in
    omega arith
  where
    split_count : (b : Bool) (m n : ℕ) → cond b (m + n) 0 ≡ cond b m 0 + cond b n 0
    split_count true m n = refl
    split_count false m n = refl
