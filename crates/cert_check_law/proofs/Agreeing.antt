-- An assignment that agrees with rows has their sums, and is best where the rows are shown best.
use Rattle.std.proofs.Common.{◌≡◌, Option, ℕ, ◌+◌, ◌*◌, ◌≤◌, Bool, true, false, ◌&&◌, cond, List, [], ◌∷◌, map, refl, sym, ap, ◌∙◌, arith, length}
use Rattle.std.specs.Prelude.{is_none}
use Rattle.std.specs.List.{sum_by, All, zip}
use Rattle.std.proofs.lemmas.Bool.{and_parts, and_from}
use Rattle.std.proofs.lemmas.List.Sums.{sum_by-cons}
use Rattle.std.proofs.lemmas.List.Elements.{All-map, All-same}
use Rattle.std.proofs.lemmas.Slice.Zip.{firsts-zip}
use Rattle.lb_types_pins.specs.declared.kind.PinKind.{PinKind}
use Rattle.lb_types_pins.specs.declared.kind.Group.{Group}
use Rattle.lb_types_pins.specs.declared.kind.Row.{Row}
use Rattle.lb_types_pins.specs.Kinds.{same_kind, same_place}
use Rattle.lb_types_pins.proofs.Order.{same_kind-true, same_kind-refl, same_place-true, same_place-refl}
use Rattle.pin_set.specs.declared.totals.Score.{Score}
use Rattle.pin_set.specs.Costs.{is_moved, move_cost, option_cost, least}
use Rattle.pin_set.specs.Assignments.{is_at, load, unplaced, moved, spent, MayGo, IsLawful, unplaced_cost, total_cost, least_total, PermitsBelow}
use Rattle.pin_set.specs.Rows.{score_of, AreGroupsOf, Agrees, rows_pins, rows_load, rows_unplaced, rows_moved, rows_spent, rows_score, rows_unplaced_cost, rows_cost, rows_least, RowMayGo, RowPermitsBelow, IsShownBest, AgreeingAreBest}
use Rattle.cert_check_law.proofs.Duality.{best_at_bound}
use Rattle.cert_check_law.proofs.Weights.{IsEquality, sum_by-same, sum_by-weights, All-weights}

abbrev Move : Type 0
Move = PinKind × Option ℕ

abbrev same_move : Move → Move → Bool
same_move m k = same_kind m.0 k.0 && same_place m.1 k.1

pub same_kind_is : IsEquality same_kind
same_kind_is = record { reflexive = same_kind-refl; truth = same_kind-true }

same_move-true : (m k : Move) → same_move m k ≡ true → m ≡ k
same_move-true m k same =
    let parts = and_parts (same_kind m.0 k.0) (same_place m.1 k.1) same in
    let pair : PinKind → Option ℕ → Move = λ kind to. (kind, to) in
    let e : pair m.0 m.1 ≡ pair k.0 k.1 = rw (same_kind-true m.0 k.0 parts.0, same_place-true m.1 k.1 parts.1) refl in e

same_move_is : IsEquality same_move
same_move_is = record {
  reflexive = λ m. and_from (same_kind m.0 m.0) (same_place m.1 m.1) (same_kind-refl m.0) (same_place-refl m.1);
  truth = same_move-true;
}

abbrev move_of : Row → Move
move_of r = (r.kind, r.new_place)

-- a sum over pins is a sum over groups of count times value
pub sum_by-groups : (groups : List Group) (pins : List PinKind) (f : PinKind → ℕ) → AreGroupsOf groups pins
    → sum_by f pins ≡ sum_by (λ g. g.count * f g.kind) groups
sum_by-groups groups pins f counts = sum_by-weights same_kind same_kind_is (λ (g : Group). g.kind) (λ (g : Group). g.count) groups pins f counts

-- a sum over pins and their places is a sum over rows of count times value
pub sum_by-rows : (rows : List Row) (pins : List PinKind) (a : List (Option ℕ)) (f : PinKind × Option ℕ → ℕ) → Agrees rows pins a
    → sum_by f (zip pins a) ≡ sum_by (λ r. r.count * f (r.kind, r.new_place)) rows
sum_by-rows rows pins a f agrees =
    sum_by-weights same_move same_move_is move_of (λ (r : Row). r.count) rows (zip pins a) f (λ m. agrees.counts m.0 m.1)

-- what holds of each row's pins and their new place holds of each pin and its place
pub All-rows : (P : PinKind × Option ℕ → Type 0) (rows : List Row) (pins : List PinKind) (a : List (Option ℕ)) → Agrees rows pins a
    → All (λ r. P (r.kind, r.new_place)) rows → All P (zip pins a)
All-rows P rows pins a agrees each =
    All-weights same_move same_move_is P move_of (λ (r : Row). r.count) rows (zip pins a) (λ m. agrees.counts m.0 m.1) each

-- sums over pins and places that read one of the two alone
sum_by-firsts : (f : PinKind → ℕ) (pins : List PinKind) (a : List (Option ℕ)) → length a ≡ length pins → sum_by (λ m. f m.0) (zip pins a) ≡ sum_by f pins
sum_by-firsts f [] a whole = refl
sum_by-firsts f (kind ∷ pins) [] whole = absurd (omega arith)
sum_by-firsts f (kind ∷ pins) (to ∷ a) whole =
    omega (arith, sum_by-cons (λ (m : Move). f m.0) (kind, to) (zip pins a), sum_by-cons f kind pins, sum_by-firsts f pins a (omega arith))

sum_by-seconds : (f : Option ℕ → ℕ) (pins : List PinKind) (a : List (Option ℕ)) → length a ≡ length pins → sum_by (λ m. f m.1) (zip pins a) ≡ sum_by f a
sum_by-seconds f [] [] whole = refl
sum_by-seconds f [] (to ∷ a) whole = absurd (omega arith)
sum_by-seconds f (kind ∷ pins) [] whole = absurd (omega arith)
sum_by-seconds f (kind ∷ pins) (to ∷ a) whole =
    omega (arith, sum_by-cons (λ (m : Move). f m.1) (kind, to) (zip pins a), sum_by-cons f to a, sum_by-seconds f pins a (omega arith))

-- a sum over the pins alone
pub sum_by-pins : (rows : List Row) (pins : List PinKind) (a : List (Option ℕ)) (f : PinKind → ℕ) → Agrees rows pins a
    → sum_by f pins ≡ sum_by (λ r. r.count * f r.kind) rows
sum_by-pins rows pins a f agrees = sym (sum_by-firsts f pins a agrees.whole) ∙ sum_by-rows rows pins a (λ m. f m.0) agrees

times_test : (b : Bool) (n : ℕ) → n * cond b 1 0 ≡ cond b n 0
times_test true n = omega arith
times_test false n = omega arith

-- a sum of counts that pass a test
marked : (p : Row → Bool) (rows : List Row) → sum_by (λ r. r.count * cond (p r) 1 0) rows ≡ sum_by (λ r. cond (p r) r.count 0) rows
marked p rows = sum_by-same (λ r. r.count * cond (p r) 1 0) (λ r. cond (p r) r.count 0) rows (λ r. times_test (p r) r.count)

pub length-ones : {X : Type 0} (xs : List X) → length xs ≡ sum_by (λ x. 1) xs
length-ones [] = refl
length-ones (x ∷ xs) = let ones = sum_by-cons (λ y. 1) x xs in omega (arith, length-ones xs)

pub pins-rows : (rows : List Row) (pins : List PinKind) (a : List (Option ℕ)) → Agrees rows pins a → length pins ≡ rows_pins rows
pins-rows rows pins a agrees =
    length-ones pins ∙ (sum_by-pins rows pins a (λ kind. 1) agrees ∙ sum_by-same (λ (r : Row). r.count * 1) (λ (r : Row). r.count) rows (λ r. omega arith))

pub load-rows : (rows : List Row) (pins : List PinKind) (a : List (Option ℕ)) (server : ℕ) → Agrees rows pins a → load a server ≡ rows_load rows server
load-rows rows pins a server agrees =
    sym (sum_by-seconds (λ to. cond (is_at server to) 1 0) pins a agrees.whole)
    ∙ (sum_by-rows rows pins a (λ m. cond (is_at server m.1) 1 0) agrees ∙ marked (λ r. is_at server r.new_place) rows)

pub unplaced-rows : (rows : List Row) (pins : List PinKind) (a : List (Option ℕ)) → Agrees rows pins a → unplaced a ≡ rows_unplaced rows
unplaced-rows rows pins a agrees =
    sym (sum_by-seconds (λ to. cond (is_none to) 1 0) pins a agrees.whole)
    ∙ (sum_by-rows rows pins a (λ m. cond (is_none m.1) 1 0) agrees ∙ marked (λ r. is_none r.new_place) rows)

pub moved-rows : (rows : List Row) (pins : List PinKind) (a : List (Option ℕ)) → Agrees rows pins a → moved pins a ≡ rows_moved rows
moved-rows rows pins a agrees =
    sum_by-rows rows pins a (λ m. cond (is_moved m.0 m.1) 1 0) agrees ∙ marked (λ r. is_moved r.kind r.new_place) rows

pub spent-rows : (rows : List Row) (pins : List PinKind) (a : List (Option ℕ)) → Agrees rows pins a → spent pins a ≡ rows_spent rows
spent-rows rows pins a agrees = sum_by-rows rows pins a (λ m. move_cost m.0 m.1) agrees

pub total_cost-rows : (u : ℕ) (rows : List Row) (pins : List PinKind) (a : List (Option ℕ)) → Agrees rows pins a → total_cost u pins a ≡ rows_cost u rows
total_cost-rows u rows pins a agrees = sum_by-rows rows pins a (λ m. option_cost u m.0 m.1) agrees

pub least_total-rows : (u : ℕ) (price : ℕ → ℕ) (n : ℕ) (rows : List Row) (pins : List PinKind) (a : List (Option ℕ)) → Agrees rows pins a
    → least_total u price n pins ≡ rows_least u price n rows
least_total-rows u price n rows pins a agrees = sum_by-pins rows pins a (least u price n) agrees

pub unplaced_cost-rows : (rows : List Row) (pins : List PinKind) (a : List (Option ℕ)) → Agrees rows pins a → unplaced_cost pins ≡ rows_unplaced_cost rows
unplaced_cost-rows rows pins a agrees = ap (λ k. 1 + k) (sum_by-pins rows pins a (λ kind. kind.cost) agrees)

pub total_cost-same : (rows : List Row) (pins : List PinKind) (a : List (Option ℕ)) → Agrees rows pins a
    → total_cost (unplaced_cost pins) pins a ≡ rows_cost (rows_unplaced_cost rows) rows
total_cost-same rows pins a agrees =
    ap (λ k. total_cost k pins a) (unplaced_cost-rows rows pins a agrees) ∙ total_cost-rows (rows_unplaced_cost rows) rows pins a agrees

pub least_total-same : (price : ℕ → ℕ) (n : ℕ) (rows : List Row) (pins : List PinKind) (a : List (Option ℕ)) → Agrees rows pins a
    → least_total (unplaced_cost pins) price n pins ≡ rows_least (rows_unplaced_cost rows) price n rows
least_total-same price n rows pins a agrees =
    ap (λ k. least_total k price n pins) (unplaced_cost-rows rows pins a agrees) ∙ least_total-rows (rows_unplaced_cost rows) price n rows pins a agrees

score_from : ℕ → ℕ → ℕ → ℕ → Score
score_from pins unplaced moved cost = record { pins = pins; unplaced = unplaced; moved = moved; cost = cost }

pub score-rows : (rows : List Row) (pins : List PinKind) (a : List (Option ℕ)) → Agrees rows pins a → score_of pins a ≡ rows_score rows
unfolding score_from
score-rows rows pins a agrees =
    let e : score_from (length pins) (unplaced a) (moved pins a) (spent pins a) ≡ score_from (rows_pins rows) (rows_unplaced rows) (rows_moved rows) (rows_spent rows) =
    rw (pins-rows rows pins a agrees, unplaced-rows rows pins a agrees, moved-rows rows pins a agrees, spent-rows rows pins a agrees) refl in
    e

-- what holds of each row's kind holds of each pin
pub All-pins : (P : PinKind → Type 0) (rows : List Row) (pins : List PinKind) (a : List (Option ℕ)) → Agrees rows pins a
    → All (λ r. P r.kind) rows → All P pins
All-pins P rows pins a agrees each =
    All-same P pins (map (λ (m : Move). m.0) (zip pins a)) (sym (firsts-zip pins a agrees.whole))
    (All-map P (λ (m : Move). m.0) (zip pins a) (All-rows (λ m. P m.0) rows pins a agrees each))

pub lawful-rows : (capacity : ℕ → ℕ) (rows : List Row) (pins : List PinKind) (a : List (Option ℕ)) → Agrees rows pins a
    → All RowMayGo rows → ((server : ℕ) → rows_load rows server ≤ capacity server) → IsLawful capacity pins a
lawful-rows capacity rows pins a agrees permitted within = record {
  whole = agrees.whole;
  permitted = All-rows MayGo rows pins a agrees permitted;
  within = λ server. rw (load-rows rows pins a server agrees) (within server);
}

-- rows that are shown best make every assignment that agrees with them best
pub agreeing_are_best : (capacity price : ℕ → ℕ) (n : ℕ) (rows : List Row) → All (RowPermitsBelow n) rows
    → IsShownBest capacity price n rows → AgreeingAreBest capacity rows
agreeing_are_best capacity price n rows below shown = record {
  best = λ pins a agrees.
      let lawful = lawful-rows capacity rows pins a agrees shown.permitted shown.within in
      let cost = total_cost-same rows pins a agrees in
      let leasts = least_total-same price n rows pins a agrees in
      best_at_bound capacity price n pins a (All-pins (PermitsBelow n) rows pins a agrees below) lawful (omega (arith, shown.shown));
  score = λ pins a agrees. score-rows rows pins a agrees;
}
