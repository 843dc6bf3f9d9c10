-- Moves put behind others, one at a time.
use Rattle.std.proofs.Common.{◌≡◌, ◌⊎◌, ℕ, ◌+◌, ◌-◌, ◌<◌, ◌≤◌, Bool, true, false, ◌&&◌, cond, Option, List, length, get_or, take, drop, refl, ap, ◌∙◌, inl, inr, arith}
use Rattle.std.specs.List.{sum_by, All, AllPairs}
use Rattle.std.proofs.lemmas.Bool.{or_left, or_right}
use Rattle.std.proofs.lemmas.List.{get_or_default}
use Rattle.std.proofs.lemmas.List.Sums.{sum_by-drop_more, sum_by_more, sum_by-take-drop, sum_by-le-sum_by}
use Rattle.lb_types_pins.specs.declared.kind.PinKind.{PinKind}
use Rattle.lb_types_pins.specs.declared.kind.Row.{Row}
use Rattle.lb_types_pins.specs.Kinds.{kind_before, row_before, same_kind, same_place, place_before}
use Rattle.lb_types_pins.proofs.Order.{same_kind-refl, kind_before-trans}
use Rattle.dual_cert_plan.specs.Plans.{groups_of, pins_in_rows}
use Rattle.dual_cert_plan.proofs.OwnSheet.{pins-groups_of}
use Rattle.pin_set.specs.Rows.{is_move, sent}
use Rattle.pin_set.specs.declared.pin_count.PinCount.{PinCount}
use Rattle.pin_groups.specs.Counts.{AreGroupsOfCounts, counted_kind, counted_with}
use Rattle.pin_moves.specs.declared.a_move.Move.{Move}
use Rattle.pin_moves.specs.Leftovers.{AreInOrder, GoesBehind}
use Rattle.pin_moves.specs.Moves.{AreRisingCounts, counted_pins, moved_pins, move_before}

-- the move of so many counted pins to a place
abbrev pub move_of : PinCount → Option ℕ → ℕ → Move
move_of c to count = record { place = c.place; want = c.want; cost = c.cost; to = to; count = count }

-- the move is for pins before these, or for these, and then what is left of their kind goes to later places, where some are wanted
abbrev pub ComesBefore : PinCount → PinKind → List Row → ℕ → Move → Type 0
ComesBefore c kind left wanted m = (kind_before (moved_pins m) (counted_pins c) ≡ true)
    ⊎ ((moved_pins m ≡ counted_pins c) × (1 ≤ wanted → GoesBehind left kind m.to))

-- a move before these pins comes before the next one
pub comes_before : (c : PinCount) (kind : PinKind) (left more : List Row) (wanted count : ℕ) (to : Option ℕ) → 1 ≤ wanted
    → ((place : Option ℕ) → GoesBehind left kind place → (place_before place to ≡ true) × GoesBehind more kind place)
    → (m : Move) → ComesBefore c kind left wanted m → move_before m (move_of c to count) ≡ true
comes_before c kind left more wanted count to some later m before =
    let pins = kind_before (moved_pins m) (counted_pins c) in
    let rest = same_kind (moved_pins m) (counted_pins c) && place_before m.to to in
    elim before [
      | inl earlier ↦ or_left pins rest earlier
      | inr same ↦
          let alike : same_kind (moved_pins m) (counted_pins c) ≡ true =
          ap (λ (k : PinKind). same_kind k (counted_pins c)) same.0 ∙ same_kind-refl (counted_pins c) in
          let places = (later m.to (same.1 some)).0 in
          let here : (same_kind (moved_pins m) (counted_pins c) && place_before m.to to) ≡ true = rw (alike, places) refl in
          or_right pins rest here
    ]

-- and still does once the next one is made
pub still_before : (c : PinCount) (kind : PinKind) (left more : List Row) (wanted fewer : ℕ) (to : Option ℕ) → 1 ≤ wanted
    → ((place : Option ℕ) → GoesBehind left kind place → (place_before place to ≡ true) × GoesBehind more kind place)
    → (m : Move) → ComesBefore c kind left wanted m → ComesBefore c kind more fewer m
still_before c kind left more wanted fewer to some later m before =
    elim before [
      | inl earlier ↦ inl earlier
      | inr same ↦ inr (same.0, λ again. (later m.to (same.1 some)).1)
    ]

-- fewer are wanted
pub fewer_wanted : (b : Bool) (wanted n : ℕ) → n ≤ wanted → cond b (wanted - n) 0 + cond b n 0 ≡ cond b wanted 0
fewer_wanted true wanted n enough = omega arith
fewer_wanted false wanted n enough = refl

-- ---- all counts

-- the rows' own counts are in order
pub order_start : (rows : List Row) → AllPairs (λ a b. row_before a b ≡ true) rows → All (λ r. 1 ≤ r.count) rows → AreInOrder rows
order_start rows rising counted = record { rising = rising; used = λ i j d below inside same some. counted j d inside }

-- what a count adds to a kind of the plan, and what the counts add to it
abbrev pub tally : ℕ → PinKind → PinCount → ℕ
tally usable kind c = cond (same_kind kind (counted_kind usable c)) c.count 0

-- the next of the counts that are to come
pub to_come-next : (usable : ℕ) (counts : List PinCount) (i : ℕ) (c : PinCount) (kind : PinKind) → i < length counts → c ≡ get_or counts i c
    → sum_by (tally usable kind) (drop i counts) ≡ tally usable kind c + sum_by (tally usable kind) (drop (i + 1) counts)
to_come-next usable counts i c kind within is =
    let here = ap (tally usable kind) is in
    omega (arith, sum_by-drop_more (tally usable kind) counts i c within)

pub whole-next : (counts : List PinCount) (i : ℕ) (c : PinCount) (pins : PinKind) → i < length counts → c ≡ get_or counts i c
    → counted_with (take (i + 1) counts) pins.place pins.permitted pins.cost
    ≡ counted_with (take i counts) pins.place pins.permitted pins.cost + cond (same_kind pins (counted_pins c)) c.count 0
whole-next counts i c pins within is =
    let f : PinCount → ℕ = λ d. cond (same_kind pins (counted_pins d)) d.count 0 in
    let here = ap f is in
    omega (arith, sum_by_more f counts i c within)

own_tally : (usable : ℕ) (c : PinCount) → tally usable (counted_kind usable c) c ≡ c.count
own_tally usable c = rw (same_kind-refl (counted_kind usable c)) refl

-- of its kind there are as many pins left as the next count has
pub enough_left : (usable : ℕ) (counts : List PinCount) (i : ℕ) (c : PinCount) (left : ℕ) → i < length counts → c ≡ get_or counts i c
    → sum_by (tally usable (counted_kind usable c)) (drop i counts) ≡ left → c.count ≤ left
enough_left usable counts i c left within is to_come =
    omega (arith, own_tally usable c, to_come-next usable counts i c (counted_kind usable c) within is)

one_of : (b : Bool) (n : ℕ) → cond b n 0 ≤ n
one_of true n = omega arith
one_of false n = omega arith

-- and there are at most so many pins at all
pub few_counted : (usable : ℕ) (counts : List PinCount) (rows : List Row) (i : ℕ) (c : PinCount) (most : ℕ) → i < length counts → c ≡ get_or counts i c
    → AreGroupsOfCounts usable (groups_of rows) counts → sum_by (λ (r : Row). r.count) rows ≤ most → c.count ≤ most
few_counted usable counts rows i c most within is groups few =
    let kind = counted_kind usable c in
    let one = enough_left usable counts i c (sum_by (tally usable kind) (drop i counts)) within is refl in
    let part = sum_by-take-drop (tally usable kind) counts i in
    let in_rows = sum_by-le-sum_by (λ (r : Row). cond (same_kind kind r.kind) r.count 0) (λ (r : Row). r.count) rows (λ r. one_of (same_kind kind r.kind) r.count) in
    omega (arith, groups kind, pins-groups_of kind rows)

-- the moves so far are before the counts behind
pub still_behind : (counts : List PinCount) (i : ℕ) (c : PinCount) → AreRisingCounts counts → i < length counts → c ≡ get_or counts i c
    → (m : Move) → (kind_before (moved_pins m) (counted_pins c) ≡ true) ⊎ (moved_pins m ≡ counted_pins c)
    → (j : ℕ) (d : PinCount) → i + 1 ≤ j → j < length counts → kind_before (moved_pins m) (counted_pins (get_or counts j d)) ≡ true
still_behind counts i c rising within is m last j d from below =
    let read : c ≡ get_or counts i d = is ∙ get_or_default counts i c d within in
    let next : kind_before (counted_pins c) (counted_pins (get_or counts j d)) ≡ true =
    ap (λ (e : PinCount). kind_before (counted_pins e) (counted_pins (get_or counts j d))) read ∙ rising.rising i j d (omega arith) below in
    elim last [
      | inl earlier ↦ kind_before-trans (moved_pins m) (counted_pins c) (counted_pins (get_or counts j d)) earlier next
      | inr same ↦ ap (λ (k : PinKind). kind_before k (counted_pins (get_or counts j d))) same ∙ next
    ]

fewer_of : (b c : Bool) (n : ℕ) → cond (b && c) n 0 ≤ cond b n 0
fewer_of true true n = omega arith
fewer_of true false n = omega arith
fewer_of false c n = omega arith

-- where no pins of a kind are left, none are to go anywhere
pub none_sent : (left : List Row) (kind : PinKind) (to : Option ℕ) → pins_in_rows kind left ≡ 0 → sent left kind to ≡ 0
none_sent left kind to none =
    let fewer = sum_by-le-sum_by (λ (r : Row). cond (is_move kind to (r.kind, r.new_place)) r.count 0) (λ (r : Row). cond (same_kind kind r.kind) r.count 0) left
    (λ r. fewer_of (same_kind kind r.kind) (same_place to r.new_place) r.count) in
    omega arith
