-- What is counted, checked and moved fits together.
use Rattle.std.proofs.Common.{◌≡◌, ℕ, ◌*◌, Bool, true, false, cond, Option, List, [], ◌∷◌, map, refl, sym, ap, ◌∙◌, arith}
use Rattle.std.specs.List.{count_by, sum_by}
use Rattle.std.proofs.lemmas.List.{length-map}
use Rattle.std.proofs.lemmas.List.Sums.{sum_by-cons}
use Rattle.lb_types_pins.specs.declared.kind.PinKind.{PinKind}
use Rattle.lb_types_pins.specs.declared.kind.Group.{Group}
use Rattle.lb_types_pins.specs.declared.kind.Row.{Row}
use Rattle.lb_types_pins.specs.Kinds.{same_kind}
use Rattle.cert_check_law.specs.Sheets.{StandsFor}
use Rattle.cert_check_law.proofs.Weights.{sum_by-same, sum_by-weights}
use Rattle.cert_check_law.proofs.Agreeing.{same_kind_is}
use Rattle.dual_cert_plan.specs.Sheets.{SheetParts}
use Rattle.pin_set.specs.declared.pin.Pin.{Pin}
use Rattle.pin_set.specs.declared.view.ViewServer.{ViewServer}
use Rattle.pin_set.specs.Pins.{permitted}
use Rattle.pin_set.specs.Rows.{Agrees, count_in, sent}
use Rattle.pin_set.specs.Views.{IsView, kind_of, kinds_of}
use Rattle.pin_set.specs.declared.pin_count.PinCount.{PinCount}
use Rattle.pin_groups.specs.Counts.{AreGroupsOfCounts, HasCounts, AreOfSomeView, counted_kind, counted_with, pins_with}
use Rattle.pin_moves.specs.declared.a_move.Move.{Move}
use Rattle.pin_moves.specs.Moves.{counted_pins, moved_to, moved_with}
use Rattle.pin_set.specs.declared.table_pin.TablePin.{TablePin}
use Rattle.pin_table.specs.Kinds.{ArePinCounts}
use Rattle.pin_table.specs.Placed.{AreMovesOf, ArePlaced, pins_in}
use Rattle.pin_table.specs.Tables.{TableParts}
use Rattle.pin_install.specs.Installed.{table_view}

module _ (usable : ℕ) (servers : List ViewServer) (table : TableParts) (counts : List PinCount) (are : ArePinCounts table.pins counts) where
  -- the table's counts are those of its view
  pub has_counts : HasCounts usable servers counts (table_view usable servers table)
  has_counts = record { same_usable = refl; same_servers = refl; same_counts = λ place want cost. sym (are place want cost) }

  pub of_some_view : IsView (table_view usable servers table) → AreOfSomeView usable servers counts
  of_some_view lawful = record { view = table_view usable servers table; lawful = lawful; counted = has_counts }

  -- and the moves that use up the counts are of its pins
  pub moves_of_table : (moves : List Move) → ((place : Option ℕ) (want cost : ℕ) → moved_with moves place want cost ≡ counted_with counts place want cost)
      → AreMovesOf table.pins moves
  moves_of_table moves whole place want cost = whole place want cost ∙ are place want cost

sum_by-map : {X Y : Type 0} (f : Y → ℕ) (g : X → Y) (xs : List X) → sum_by f (map g xs) ≡ sum_by (λ x. f (g x)) xs
sum_by-map f g [] = refl
sum_by-map f g (x ∷ xs) = omega (arith, sum_by-cons f (g x) (map g xs), sum_by-cons (λ y. f (g y)) x xs, sum_by-map f g xs)

times_test : (b : Bool) (n : ℕ) → n * cond b 1 0 ≡ cond b n 0
times_test true n = omega arith
times_test false n = omega arith

-- the kind of the plan that pins of one place, wanted servers and cost are of
abbrev kind_at : ℕ → PinKind → PinKind
kind_at usable pins = record { place = pins.place; permitted = permitted pins.permitted usable; cost = pins.cost }

-- of each kind there are as many pins as the counts say
kinds_counted : (usable : ℕ) (pins : List Pin) (counts : List PinCount)
    → ((place : Option ℕ) (want cost : ℕ) → counted_with counts place want cost ≡ pins_with pins place want cost)
    → (kind : PinKind) → sum_by (λ c. cond (same_kind kind (counted_kind usable c)) c.count 0) counts ≡ count_by (same_kind kind) (map (kind_of usable) pins)
kinds_counted usable pins counts are kind =
    let value : PinKind → ℕ = λ k. cond (same_kind kind (kind_at usable k)) 1 0 in
    let all = sum_by-weights same_kind same_kind_is counted_pins (λ (c : PinCount). c.count) counts (map pins_in pins) value
    (λ x. sum_by-map (λ (k : PinKind). cond (same_kind x k) 1 0) pins_in pins ∙ sym (are x.place x.permitted x.cost)) in
    sym (sum_by-same (λ (c : PinCount). c.count * value (counted_pins c)) (λ (c : PinCount). cond (same_kind kind (counted_kind usable c)) c.count 0) counts
    (λ c. times_test (same_kind kind (counted_kind usable c)) c.count))
    ∙ (sym all
    ∙ (sum_by-map value pins_in pins
    ∙ sym (sum_by-map (λ (k : PinKind). cond {A = ℕ} (same_kind kind k) 1 0) (kind_of usable) pins)))

-- so a plan that has the groups of a sheet for the view has those of the counts
pub groups_of_counts : (usable : ℕ) (servers : List ViewServer) (table : TableParts) (counts : List PinCount) (sheet : SheetParts) (groups : List Group)
    → ArePinCounts table.pins counts → StandsFor sheet (table_view usable servers table) → groups ≡ sheet.groups → AreGroupsOfCounts usable groups counts
groups_of_counts usable servers table counts sheet groups are stands same kind =
    kinds_counted usable (map (λ (p : TablePin). p.pin) table.pins) counts are kind
    ∙ (stands.counts kind ∙ ap (λ gs. count_in gs kind) (sym same))

-- where the moves send what the rows say, the pins went where the rows say
pub agrees : (usable : ℕ) (servers : List ViewServer) (table : TableParts) (rows : List Row) (moves : List Move) (new : List TablePin)
    (placed : ArePlaced moves table.pins new) → ((kind : PinKind) (to : Option ℕ) → moved_to usable moves kind to ≡ sent rows kind to)
    → Agrees rows (kinds_of (table_view usable servers table)) placed.places
agrees usable servers table rows moves new placed send = record {
  whole =
      placed.whole
      ∙ sym (length-map (map (λ (p : TablePin). p.pin) table.pins) (kind_of usable) ∙ length-map table.pins (λ (p : TablePin). p.pin));
  counts = λ kind to. placed.sent usable kind to ∙ send kind to;
}
