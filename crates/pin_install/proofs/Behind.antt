-- What the table is behind a plan: as many pins at each server as the rows send there, and the same view where no pin has moved.
use Rattle.std.proofs.Common.{◌≡◌, ◌≢◌, ◌↔◌, ℕ, ◌+◌, ◌<◌, Bool, true, false, not, cond, Option, List, [], ◌∷◌, length, map, get_or, nat_lt, ltb-true, ltb-false, IsPermutation, All, AllPairs, Contains, refl, sym, ap, ap₂, ◌∙◌, subst, arith}
use Rattle.std.specs.List.{sum_by, zip}
use Rattle.std.proofs.lemmas.List.{get_or_default, length-map}
use Rattle.std.proofs.lemmas.List.Elements.{All-head, All-tail, All-contains_itself}
use Rattle.std.proofs.lemmas.List.Sorted.{IsPermutation-refl, All-permutation}
use Rattle.std.proofs.lemmas.List.Sums.{sum_by-cons}
use Rattle.lb_types_pins.specs.declared.kind.PinKind.{PinKind}
use Rattle.lb_types_pins.specs.declared.kind.Row.{Row}
use Rattle.lb_types_pins.specs.Kinds.{same_place}
use Rattle.lb_types_pins.proofs.Order.{same_place-true, same_place-refl}
use Rattle.cert_check_law.proofs.Agreeing.{load-rows}
use Rattle.dual_cert_plan.specs.Plans.{PlanParts}
use Rattle.pin_set.specs.declared.pin.Pin.{Pin}
use Rattle.pin_set.specs.declared.pin.PinId.{PinId}
use Rattle.pin_set.specs.declared.totals.Score.{Score}
use Rattle.pin_set.specs.declared.view.ViewServer.{ViewServer}
use Rattle.pin_set.specs.Assignments.{is_at, load as load_of, moved}
use Rattle.pin_set.specs.Costs.{is_moved}
use Rattle.pin_set.specs.Rows.{rows_load}
use Rattle.pin_set.specs.Views.{IsView, kind_of, kinds_of}
use Rattle.pin_set.specs.declared.table_pin.TablePin.{TablePin}
use Rattle.lb_desk_model.specs.Installs.{moved_to as at_place}
use Rattle.lb_desk_model.specs.Serves.{load}
use Rattle.lb_desk_model.specs.States.{SameView}
use Rattle.pin_table.specs.Tables.{TableParts}
use Rattle.pin_install.specs.Installed.{table_view, InstallsIn}

-- the pins at these places
abbrev sent_to : List TablePin → List (Option ℕ) → List TablePin
sent_to pins places = map (λ m. at_place m.0 m.1) (zip pins places)

abbrev pins_of : List TablePin → List Pin
pins_of pins = map (λ p. p.pin) pins

-- ---- loads

load_sent : (server : ℕ) (pins : List TablePin) (places : List (Option ℕ)) → length places ≡ length pins → load (sent_to pins places) server ≡ load_of places server
load_sent server [] [] whole = refl
load_sent server [] (place ∷ places) whole = absurd (omega arith)
load_sent server (p ∷ pins) [] whole = absurd (omega arith)
load_sent server (p ∷ pins) (place ∷ places) whole =
    omega (
      arith,
      sum_by-cons (λ (q : TablePin). cond (is_at server q.pin.place) 1 0) (at_place p place) (sent_to pins places),
      sum_by-cons (λ (q : Option ℕ). cond (is_at server q) 1 0) place places,
      load_sent server pins places (omega arith),
    )

-- ---- moves

-- 1 where the pin changes its place
abbrev one_moved : ℕ → PinKind × Option ℕ → ℕ
one_moved usable m = cond (is_moved m.0 m.1) 1 0

stays_there : (p q : Option ℕ) → cond {A = ℕ} (not (same_place p q)) 1 0 ≡ 0 → p ≡ q
stays_there p q none = by (same_place p q) refl none
  where
    by : (b : Bool) → same_place p q ≡ b → cond {A = ℕ} (not b) 1 0 ≡ 0 → p ≡ q
    by true same zero = same_place-true p q same
    by false other zero = absurd (omega arith)

pin_at : PinId → ℕ → Option ℕ → Pin
pin_at id cost place = record { id = id; place = place; cost = cost }

-- where none changes its place, the pins are as they were
none_moved : (usable : ℕ) (pins : List TablePin) (places : List (Option ℕ)) → length places ≡ length pins
    → moved (map (kind_of usable) (pins_of pins)) places ≡ 0 → pins_of (sent_to pins places) ≡ pins_of pins
unfolding pin_at
none_moved usable [] [] whole none = refl
none_moved usable [] (place ∷ places) whole none = absurd (omega arith)
none_moved usable (p ∷ pins) [] whole none = absurd (omega arith)
none_moved usable (p ∷ pins) (place ∷ places) whole none =
    let split = sum_by-cons (one_moved usable) (kind_of usable p.pin, place) (zip (map (kind_of usable) (pins_of pins)) places) in
    let here : one_moved usable (kind_of usable p.pin, place) ≡ 0 = omega arith in
    let same : p.pin.place ≡ place = stays_there p.pin.place place here in
    ap₂ (λ (x : Pin) xs. x ∷ xs) (ap (pin_at p.pin.id p.pin.cost) (sym same)) (none_moved usable pins places (omega arith) (omega arith))

-- of pins with names of their own those of one name are one
one_of_a_name : (all : List Pin) (x y : Pin) → AllPairs (λ a b. a.id ≢ b.id) all → Contains all x → Contains all y → x.id ≡ y.id → x ≡ y
one_of_a_name all x y distinct at_x at_y same = by (nat_lt at_x.0 at_y.0) refl (nat_lt at_y.0 at_x.0) refl
  where
    is_x : (d : Pin) → get_or all at_x.0 d ≡ x
    is_x d = get_or_default all at_x.0 d x at_x.1 ∙ at_x.2

    is_y : (d : Pin) → get_or all at_y.0 d ≡ y
    is_y d = get_or_default all at_y.0 d y at_y.1 ∙ at_y.2

    by : (s : Bool) → nat_lt at_x.0 at_y.0 ≡ s → (t : Bool) → nat_lt at_y.0 at_x.0 ≡ t → x ≡ y
    by true first t second =
        absurd (distinct at_x.0 at_y.0 x (ltb-true at_x.0 at_y.0 first) at_y.1
        (ap (λ (p : Pin). p.id) (is_x x) ∙ (same ∙ ap (λ (p : Pin). p.id) (sym (is_y x)))))
    by false first true second =
        absurd (distinct at_y.0 at_x.0 x (ltb-true at_y.0 at_x.0 second) at_x.1
        (ap (λ (p : Pin). p.id) (is_y x) ∙ (sym same ∙ ap (λ (p : Pin). p.id) (sym (is_x x)))))
    by false first false second =
        let a = ltb-false at_x.0 at_y.0 first in
        let b = ltb-false at_y.0 at_x.0 second in
        let e : at_x.0 ≡ at_y.0 = omega arith in
        sym (is_x x) ∙ (ap (λ (k : ℕ). get_or all k x) e ∙ is_y x)

-- where the pins are among the old ones, none has changed its place
all_stay : (usable : ℕ) (all : List Pin) → AllPairs (λ a b. a.id ≢ b.id) all → (pins : List TablePin) (places : List (Option ℕ)) → length places ≡ length pins
    → All (Contains all) (pins_of pins) → All (Contains all) (pins_of (sent_to pins places)) → moved (map (kind_of usable) (pins_of pins)) places ≡ 0
all_stay usable all distinct [] [] whole before behind = refl
all_stay usable all distinct [] (place ∷ places) whole before behind = absurd (omega arith)
all_stay usable all distinct (p ∷ pins) [] whole before behind = absurd (omega arith)
all_stay usable all distinct (p ∷ pins) (place ∷ places) whole before behind =
    let sent = (at_place p place).pin in
    let one = one_of_a_name all p.pin sent distinct (All-head (Contains all) p.pin (pins_of pins) before)
    (All-head (Contains all) sent (pins_of (sent_to pins places)) behind) refl in
    let place_is : p.pin.place ≡ place = ap (λ (x : Pin). x.place) one in
    let here : one_moved usable (kind_of usable p.pin, place) ≡ 0 =
    ap (λ (q : Option ℕ). cond {A = ℕ} (not (same_place p.pin.place q)) 1 0) (sym place_is)
    ∙ ap (λ (b : Bool). cond {A = ℕ} (not b) 1 0) (same_place-refl p.pin.place) in
    omega (
      arith,
      sum_by-cons (one_moved usable) (kind_of usable p.pin, place) (zip (map (kind_of usable) (pins_of pins)) places),
      all_stay usable all distinct pins places (omega arith) (All-tail (Contains all) p.pin (pins_of pins) before)
          (All-tail (Contains all) sent (pins_of (sent_to pins places)) behind),
    )

module _ (usable : ℕ) (servers : List ViewServer) (plan : PlanParts) (score : Score) (old new : TableParts) (installed : InstallsIn usable servers plan score old new) where
  whole_places : length installed.places ≡ length old.pins
  whole_places =
      installed.moves.agrees.whole
      ∙ length-map (pins_of old.pins) (kind_of usable)
      ∙ length-map old.pins (λ (p : TablePin). p.pin)

  new_pins : new.pins ≡ sent_to old.pins installed.places
  new_pins = ap (λ (t : TableParts). t.pins) installed.new_is

  -- each server has as many pins as the rows send there
  pub loads_behind : (server : ℕ) → load new.pins server ≡ rows_load plan.rows server
  loads_behind server =
      ap (λ ps. load ps server) new_pins
      ∙ (load_sent server old.pins installed.places whole_places
      ∙ load-rows plan.rows (kinds_of (table_view usable servers old)) installed.places server installed.moves.agrees)

  moved_is : score.moved ≡ moved (kinds_of (table_view usable servers old)) installed.places
  moved_is = ap (λ (s : Score). s.moved) installed.moves.score_is

  -- the view is the same exactly where no pin has moved
  pub view_behind : IsView (table_view usable servers old) → (score.moved ≡ 0) ↔ SameView (table_view usable servers old) (table_view usable servers new)
  view_behind lawful = (
    λ none. record {
      usable = refl;
      servers = refl;
      pins = subst (IsPermutation (pins_of old.pins))
          (sym (ap pins_of new_pins ∙ none_moved usable old.pins installed.places whole_places (sym moved_is ∙ none)))
          (IsPermutation-refl (pins_of old.pins));
    },
    λ same.
        let all = pins_of old.pins in
        let itself = All-contains_itself all in
        let behind = subst (λ ps. All (Contains all) (pins_of ps)) new_pins (All-permutation (Contains all) all (pins_of new.pins) same.pins itself) in
        moved_is ∙ all_stay usable all lawful.distinct_pins old.pins installed.places whole_places itself behind,
  )
