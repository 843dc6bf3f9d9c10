-- Pins are spread over rows one by one: what is left of the rows is always for the pins to come.
use Rattle.std.proofs.Common.{◌≡◌, ◌⊎◌, ℕ, zero, suc, ◌+◌, ◌-◌, ◌<◌, ◌≤◌, Bool, true, false, cond, Option, List, [], ◌∷◌, ◌++◌, map, length, get_or, set, replicate, drop, count_by, refl, sym, ap, ◌∙◌, inl, inr, arith}
use Rattle.std.specs.List.{sum_by, zip}
use Rattle.std.proofs.lemmas.Bool.{and_parts, cases_eq, cases_lt}
use Rattle.std.proofs.lemmas.List.{drop_more, drop_all, length-set, length-map, length-replicate, get_or_default, get_or_past, get_or-replicate, get_or-set_same, get_or-set_other}
use Rattle.std.proofs.lemmas.List.Sums.{sum_by-cons}
use Rattle.std.specs.List.Sorted.{IsPartitionedBy}
use Rattle.lb_types_pins.specs.declared.kind.PinKind.{PinKind}
use Rattle.lb_types_pins.specs.declared.kind.Row.{Row}
use Rattle.lb_types_pins.specs.Kinds.{kind_before, same_kind, same_place}
use Rattle.lb_types_pins.proofs.Order.{same_kind-true, same_kind-refl, kind_before-trans, kind_before-irrefl, row_earlier}
use Rattle.dual_cert_plan.specs.Plans.{groups_of}
use Rattle.dual_cert_plan.proofs.OwnSheet.{pins-groups_of}
use Rattle.pin_set.specs.Rows.{AreGroupsOf, is_move, Agrees}
use Rattle.pin_groups.specs.Leftovers.{AreRisingRows, AreUsedUp, is_of, sends, left_in, IsSpread}

-- ---- rows in rising order

-- a row before another has an earlier kind or the same one
pub kind_earlier : (rows : List Row) → AreRisingRows rows → (i j : ℕ) (d : Row) → i < j → j < length rows
    → (kind_before (get_or rows i d).kind (get_or rows j d).kind ≡ true) ⊎ ((get_or rows i d).kind ≡ (get_or rows j d).kind)
kind_earlier rows rising i j d below within =
    elim (row_earlier (get_or rows i d) (get_or rows j d) (rising i j d below within)) [
      | inl before ↦ inl before
      | inr same ↦ inr same.0
    ]

pub rows_partitioned : (rows : List Row) (kind : PinKind) → AreRisingRows rows → IsPartitionedBy (λ r. kind_before r.kind kind) rows
rows_partitioned rows kind rising i j d within below before =
    elim (cases_eq i j) [
      | inl same ↦ rw same before
      | inr other ↦ elim (kind_earlier rows rising i j d (omega arith) below) [
        | inl earlier ↦ kind_before-trans (get_or rows i d).kind (get_or rows j d).kind kind earlier before
        | inr same ↦ rw same before
      ]
    ]

-- ---- what is left

left_in-cons : (test : Row → Bool) (r : Row) (rows : List Row) (n : ℕ) (left : List ℕ)
    → left_in test (r ∷ rows) (n ∷ left) ≡ cond (test r) n 0 + left_in test rows left
left_in-cons test r rows n left = sum_by-cons (λ (m : Row × ℕ). cond (test m.0) m.1 0) (r, n) (zip rows left)

-- before the first pin, all of the rows' counts are left
pub left_in-start : (test : Row → Bool) (rows : List Row)
    → left_in test rows (map (λ (r : Row). r.count) rows) ≡ sum_by (λ (r : Row). cond (test r) r.count 0) rows
left_in-start test [] = refl
left_in-start test (r ∷ rows) =
    let one = left_in-cons test r rows r.count (map (λ (q : Row). q.count) rows) in
    let sum = sum_by-cons (λ (q : Row). cond (test q) q.count 0) r rows in
    omega (arith, left_in-start test rows)

none_here : (b : Bool) (n : ℕ) → (b ≡ true → n ≡ 0) → cond b n 0 ≡ 0
none_here true n none = none refl
none_here false n none = refl

-- nothing is left where each row that passes the test is used up
pub left_in-none : (test : Row → Bool) (rows : List Row) (left : List ℕ) → length left ≡ length rows
    → ((k : ℕ) (d : Row) → k < length rows → test (get_or rows k d) ≡ true → get_or left k 0 ≡ 0) → left_in test rows left ≡ 0
left_in-none test [] left whole none = refl
left_in-none test (r ∷ rows) [] whole none = absurd (omega arith)
left_in-none test (r ∷ rows) (n ∷ left) whole none =
    let here : cond (test r) n 0 ≡ 0 = none_here (test r) n (λ passes. none 0 r (omega arith) passes) in
    let rest = left_in-none test rows left (omega arith) (λ k d below. none (suc k) d (omega arith)) in
    omega (arith, left_in-cons test r rows n left)

one_less : (b : Bool) (n m : ℕ) → n ≡ m → 1 ≤ n → cond b (n - 1) 0 + cond b 1 0 ≡ cond b m 0
one_less true n m same some = omega arith
one_less false n m same some = refl

-- one pin of a row is given its place
pub left_in-used : (test : Row → Bool) (rows : List Row) (left : List ℕ) (at n : ℕ) (d : Row) → length left ≡ length rows
    → at < length rows → n ≡ get_or left at n → 1 ≤ n
    → left_in test rows (set left at (n - 1)) + cond (test (get_or rows at d)) 1 0 ≡ left_in test rows left
left_in-used test [] left at n d whole within is some = absurd (omega arith)
left_in-used test (r ∷ rows) [] at n d whole within is some = absurd (omega arith)
left_in-used test (r ∷ rows) (m ∷ left) zero n d whole within is some =
    omega (arith, left_in-cons test r rows m left, left_in-cons test r rows (n - 1) left, one_less (test r) n m is some)
left_in-used test (r ∷ rows) (m ∷ left) (suc at) n d whole within is some =
    let rest = left_in-used test rows left at n d (omega arith) (omega arith) is some in
    omega (arith, left_in-cons test r rows m left, left_in-cons test r rows m (set left at (n - 1)))

no_more : (b c : Bool) (n : ℕ) → (b ≡ true → c ≡ true) → cond b n 0 ≤ cond c n 0
no_more true c n implies = rw (implies refl) (omega arith)
no_more false c n implies = omega arith

-- fewer rows have less left
pub left_in-le : (test more : Row → Bool) (rows : List Row) (left : List ℕ) → ((r : Row) → test r ≡ true → more r ≡ true)
    → left_in test rows left ≤ left_in more rows left
left_in-le test more [] left implies = omega arith
left_in-le test more (r ∷ rows) [] implies = omega arith
left_in-le test more (r ∷ rows) (n ∷ left) implies =
    let here = no_more (test r) (more r) n (implies r) in
    let rest = left_in-le test more rows left implies in
    omega (arith, left_in-cons test r rows n left, left_in-cons more r rows n left)

-- ---- the row that is found

one_if : Bool → ℕ
one_if b = cond b 1 0

both : (b : Bool) → b ≡ false → b ≡ true → 1 ≤ 0
unfolding one_if
both b is_false is_true = let e : one_if true ≡ one_if false = ap one_if (sym is_true ∙ is_false) in omega (arith, e)

pub kind_behind : (rows : List Row) (kind : PinKind) (at k : ℕ) (d : Row) → AreRisingRows rows → at ≤ k → k < length rows
    → kind_before (get_or rows at d).kind kind ≡ false → same_kind kind (get_or rows at d).kind ≡ false
    → same_kind kind (get_or rows k d).kind ≡ false
kind_behind rows kind at k d rising from below behind other =
    let a = (get_or rows at d).kind in
    let b = (get_or rows k d).kind in
    let go : (c : Bool) → same_kind kind b ≡ c → c ≡ false =
    λ c. elim c as (λ c. same_kind kind b ≡ c → c ≡ false) [
      | false ↦ λ e. refl
      | true ↦ λ e.
          let alike : kind ≡ b = same_kind-true kind b e in
          elim (cases_eq at k) [
            | inl same ↦ absurd (omega (arith, both (same_kind kind a) other (ap (λ n. same_kind kind (get_or rows n d).kind) same ∙ e)))
            | inr past ↦ elim (kind_earlier rows rising at k d (omega arith) below) [
              | inl earlier ↦ absurd (omega (arith, both (kind_before a kind) behind (rw alike earlier)))
              | inr same ↦ absurd (omega (arith, both (same_kind kind a) other (ap (same_kind kind) same ∙ e)))
            ]
          ]
    ] in
    go (same_kind kind b) refl

-- rows of earlier kinds have no pins of this kind
before_first : (rows : List Row) (left : List ℕ) (kind : PinKind) (first : ℕ)
    → ((k : ℕ) (d : Row) → k < first → kind_before (get_or rows k d).kind kind ≡ true)
    → (k : ℕ) (d : Row) → k < first → same_kind kind (get_or rows k d).kind ≡ true → get_or left k 0 ≡ 0
before_first rows left kind first before k d low same =
    let alike : kind ≡ (get_or rows k d).kind = same_kind-true kind (get_or rows k d).kind same in
    let earlier : kind_before kind kind ≡ true = ap (λ (x : PinKind). kind_before x kind) alike ∙ before k d low in
    absurd (omega (arith, both (kind_before kind kind) (kind_before-irrefl kind) earlier))

-- A kind that has pins left has them behind the rows that are used up, so there is a row.
pub goes_on : (rows : List Row) (left : List ℕ) (kind : PinKind) (first at : ℕ) → length left ≡ length rows
    → ((k : ℕ) (d : Row) → k < first → kind_before (get_or rows k d).kind kind ≡ true)
    → ((k : ℕ) → first ≤ k → k < at → get_or left k 0 ≡ 0) → 1 ≤ left_in (is_of kind) rows left → at < length rows
goes_on rows left kind first at whole before skipped some =
    elim (cases_lt at (length rows)) [
      | inl below ↦ below
      | inr past ↦
          let none = left_in-none (is_of kind) rows left whole (λ k d inside same. elim (cases_lt k first) [
            | inl low ↦ before_first rows left kind first before k d low same
            | inr from ↦ skipped k (omega arith) (omega arith)
          ]) in
          absurd (omega arith)
    ]

-- The first row with pins left from the first row of the kind on is one of the kind, if the kind has pins left at all.
pub found_row : (rows : List Row) (left : List ℕ) (kind : PinKind) (first at : ℕ) → AreRisingRows rows → length left ≡ length rows
    → ((k : ℕ) (d : Row) → k < first → kind_before (get_or rows k d).kind kind ≡ true)
    → ((k : ℕ) (d : Row) → first ≤ k → k < length rows → kind_before (get_or rows k d).kind kind ≡ false)
    → first ≤ at → ((k : ℕ) → first ≤ k → k < at → get_or left k 0 ≡ 0) → 1 ≤ left_in (is_of kind) rows left
    → (at < length rows) × ((d : Row) → (get_or rows at d).kind ≡ kind)
found_row rows left kind first at rising whole before behind from_first skipped some =
    let within : at < length rows = goes_on rows left kind first at whole before skipped some in
    let is_one : (e : Row) → same_kind kind (get_or rows at e).kind ≡ true =
    λ e. decided (same_kind kind (get_or rows at e).kind) (λ other.
    let none = left_in-none (is_of kind) rows left whole (λ k d inside same. elim (cases_lt k first) [
      | inl low ↦ before_first rows left kind first before k d low same
      | inr from ↦ elim (cases_lt k at) [
        | inl below ↦ skipped k (omega arith) below
        | inr past ↦
            let elsewhere = ap (λ (r : Row). same_kind kind r.kind) (get_or_default rows at d e within) ∙ other in
            let differ = kind_behind rows kind at k d rising (omega arith) inside (behind at d (omega arith) within) elsewhere in
            absurd (omega (arith, both (same_kind kind (get_or rows k d).kind) differ same))
      ]
    ]) in
    omega arith) in
    (within, λ d. sym (same_kind-true kind (get_or rows at d).kind (is_one d)))
  where
    decided : (b : Bool) → (b ≡ false → 1 ≤ 0) → b ≡ true
    decided true never = refl
    decided false never = absurd (omega (arith, never refl))

-- ---- the rows that are used up

all_zeros : (n i : ℕ) → ◌≡◌ {A = ℕ} (get_or (replicate n 0) i 0) 0
all_zeros n i =
    elim (cases_lt i n) [
      | inl within ↦ get_or-replicate n i 0 0 within
      | inr past ↦ get_or_past (replicate n 0) i 0 (omega (arith, length-replicate {A = ℕ} n 0))
    ]

pub used_up-start : (left : List ℕ) (n : ℕ) → length left ≡ n → AreUsedUp left (replicate n 0)
used_up-start left n long = record {
  whole = omega (arith, long, length-replicate {A = ℕ} n 0);
  none = λ row k late below. absurd (omega (arith, all_zeros n row));
}

-- from the first row of the kind up to the one that is found nothing is left, where the walk began at the mark or behind it
pub passed_over : (left used_to : List ℕ) (first from at : ℕ) → AreUsedUp left used_to
    → ((k : ℕ) → first ≤ k → get_or used_to first 0 ≤ k → from ≤ k) → ((k : ℕ) → from ≤ k → k < at → get_or left k 0 ≡ 0)
    → (k : ℕ) → first ≤ k → k < at → get_or left k 0 ≡ 0
passed_over left used_to first from at used begun walked k late below =
    elim (cases_lt k (get_or used_to first 0)) [
      | inl low ↦ used.none first k late low
      | inr high ↦ walked k (begun k late (omega arith)) below
    ]

-- the mark of the first row is put at the row that is found
pub used_up-more : (left used_to : List ℕ) (first at : ℕ) → AreUsedUp left used_to → first < length used_to
    → ((k : ℕ) → first ≤ k → k < at → get_or left k 0 ≡ 0) → AreUsedUp left (set used_to first at)
used_up-more left used_to first at used within skipped = record {
  whole = length-set used_to first at ∙ used.whole;
  none = λ row k late below.
      elim (cases_eq row first) [
        | inl same ↦
            let mark : get_or (set used_to first at) row 0 ≡ at =
            ap (λ n. get_or (set used_to first at) n 0) same ∙ get_or-set_same used_to first at 0 within in
            skipped k (omega (arith, same)) (omega (arith, mark))
        | inr other ↦ used.none row k late (omega (arith, get_or-set_other used_to first row at 0 other))
      ];
}

-- a pin of a row that has some left is given its place
pub used_up-less : (left used_to : List ℕ) (at n : ℕ) → AreUsedUp left used_to → 1 ≤ get_or left at 0
    → AreUsedUp (set left at n) used_to
used_up-less left used_to at n used some = record {
  whole = used.whole ∙ sym (length-set left at n);
  none = λ row k late below.
      elim (cases_eq k at) [
        | inl same ↦ absurd (omega (arith, used.none row k late below, ap (λ m. get_or left m 0) same))
        | inr other ↦ get_or-set_other left at k n 0 other ∙ used.none row k late below
      ];
}

-- ---- the places, one by one

zip-none : {X Y : Type 0} (xs : List X) → zip {K = X} {X = Y} xs [] ≡ []
zip-none [] = refl
zip-none (x ∷ xs) = refl

pub length_more : (places : List (Option ℕ)) (to : Option ℕ) → length (places ++ to ∷ []) ≡ length places + 1
length_more [] to = refl
length_more (place ∷ places) to = omega (arith, length_more places to)

-- one place more
zip_more : (f : PinKind × Option ℕ → ℕ) (kinds : List PinKind) (places : List (Option ℕ)) (to : Option ℕ) (d : PinKind)
    → length places < length kinds
    → sum_by f (zip kinds (places ++ to ∷ [])) ≡ sum_by f (zip kinds places) + f (get_or kinds (length places) d, to)
zip_more f [] places to d below = absurd (omega arith)
zip_more f (kind ∷ kinds) [] to d below =
    sum_by-cons f (kind, to) (zip kinds []) ∙ rw (zip-none {Y = Option ℕ} kinds) (omega arith)
zip_more f (kind ∷ kinds) (place ∷ places) to d below =
    let rest = zip_more f kinds places to d (omega arith) in
    omega (arith, sum_by-cons f (kind, place) (zip kinds (places ++ to ∷ [])), sum_by-cons f (kind, place) (zip kinds places))

-- before the first pin
pub spread_start : (rows : List Row) (kinds : List PinKind) → AreGroupsOf (groups_of rows) kinds
    → IsSpread rows kinds (map (λ (r : Row). r.count) rows) []
spread_start rows kinds counts = record {
  whole = length-map rows (λ (r : Row). r.count);
  to_come = λ kind. counts kind ∙ (pins-groups_of kind rows ∙ sym (left_in-start (is_of kind) rows));
  given = λ kind to.
      let none : count_by (is_move kind to) (zip kinds []) ≡ 0 = rw (zip-none {Y = Option ℕ} kinds) refl in
      omega (arith, left_in-start (sends kind to) rows);
}

-- the rows of the next pin's kind have pins left
pub next_left : (rows : List Row) (kinds : List PinKind) (left : List ℕ) (places : List (Option ℕ)) (kind : PinKind)
    → IsSpread rows kinds left places → length places < length kinds → get_or kinds (length places) kind ≡ kind → 1 ≤ left_in (is_of kind) rows left
next_left rows kinds left places kind before more here =
    let next = drop_more kinds (length places) kind more in
    let at_next = ap (λ (ks : List PinKind). count_by (same_kind kind) ks) next in
    let first = sum_by-cons (λ (k : PinKind). cond (same_kind kind k) 1 0) (get_or kinds (length places) kind) (drop (length places + 1) kinds) in
    let one : cond {A = ℕ} (same_kind kind (get_or kinds (length places) kind)) 1 0 ≡ 1 = rw (here, same_kind-refl kind) refl in
    omega (arith, before.to_come kind)

-- the next pin goes where a row of its kind sends one that is left
pub spread_step : (rows : List Row) (kinds : List PinKind) (left : List ℕ) (places : List (Option ℕ)) (kind : PinKind) (row : Row) (at n : ℕ)
    → IsSpread rows kinds left places → length places < length kinds → get_or kinds (length places) kind ≡ kind
    → at < length rows → get_or rows at row ≡ row → row.kind ≡ kind → n ≡ get_or left at n → 1 ≤ n
    → IsSpread rows kinds (set left at (n - 1)) (places ++ row.new_place ∷ [])
spread_step rows kinds left places kind row at n before more here within there same is some = record {
  whole = length-set left at (n - 1) ∙ before.whole;
  to_come = λ other.
      let used = left_in-used (is_of other) rows left at n row before.whole within is some in
      let grown : length (places ++ row.new_place ∷ []) ≡ length places + 1 = length_more places row.new_place in
      let next = drop_more kinds (length places) kind more in
      let all = before.to_come other in
      let first = sum_by-cons (λ (k : PinKind). cond (same_kind other k) 1 0) (get_or kinds (length places) kind) (drop (length places + 1) kinds) in
      let at_next = ap (λ (ks : List PinKind). count_by (same_kind other) ks) next in
      let alike : cond {A = ℕ} (same_kind other (get_or kinds (length places) kind)) 1 0 ≡ cond {A = ℕ} (same_kind other (get_or rows at row).kind) 1 0 =
      rw (here, there, same) refl in
      rw grown (omega arith);
  given = λ other to.
      let used = left_in-used (sends other to) rows left at n row before.whole within is some in
      let one = zip_more (λ m. cond (is_move other to m) 1 0) kinds places row.new_place kind more in
      let alike : cond {A = ℕ} (is_move other to (get_or kinds (length places) kind, row.new_place)) 1 0 ≡ cond {A = ℕ} (sends other to (get_or rows at row)) 1 0 =
      rw (here, there, same) refl in
      omega (arith, before.given other to);
}

-- behind the last pin nothing is left
pub spread_end : (rows : List Row) (kinds : List PinKind) (left : List ℕ) (places : List (Option ℕ))
    → IsSpread rows kinds left places → length places ≡ length kinds → Agrees rows kinds places
spread_end rows kinds left places all whole = record {
  whole = whole;
  counts = λ kind to.
      let none : count_by (same_kind kind) (drop (length places) kinds) ≡ 0 = rw (drop_all (length places) kinds (omega arith)) refl in
      let fewer = left_in-le (sends kind to) (is_of kind) rows left (λ r both_hold. (and_parts (same_kind kind r.kind) (same_place to r.new_place) both_hold).0) in
      omega (arith, all.to_come kind, all.given kind to);
}
