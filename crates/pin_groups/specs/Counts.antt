-- Views that are known by how many pins have each place, wanted servers and cost.
use Rattle.std.specs.Prelude.{◌≡◌, ℕ, ◌&&◌, Option, List, sum_by, count_by, if◌then◌else◌, ◌==◌}
use Rattle.lb_types_pins.specs.declared.kind.Group.{Group}
use Rattle.lb_types_pins.specs.declared.kind.PinKind.{PinKind}
use Rattle.lb_types_pins.specs.Kinds.{same_kind, same_place}
use Rattle.dual_cert_plan.specs.Sheets.{SheetParts, IsSheet}
use Rattle.pin_set.specs.declared.pin.Pin.{Pin}
use Rattle.pin_set.specs.declared.view.ViewServer.{ViewServer}
use Rattle.pin_set.specs.Pins.{permitted}
use Rattle.pin_set.specs.Rows.{count_in}
use Rattle.pin_set.specs.Views.{ViewParts, IsView}
use Rattle.cert_check_law.specs.Sheets.{StandsFor}
use Rattle.pin_set.specs.declared.pin_count.PinCount.{PinCount}

-- how many of the pins have this place, want these servers and have this cost
abbrev pub pins_with : List Pin → Option ℕ → ℕ → ℕ → ℕ
pins_with pins place want cost = count_by (λ pin. same_place place pin.place && (want == pin.id.want && cost == pin.cost)) pins

-- how many pins the counts say to have this place, to want these servers and to have this cost
abbrev pub counted_with : List PinCount → Option ℕ → ℕ → ℕ → ℕ
counted_with counts place want cost =
    sum_by (λ c. if same_place place c.place && (want == c.want && cost == c.cost) then c.count else 0) counts

-- the view has these usable servers, these servers, and as many pins of each place, wanted servers and cost as the counts say
pub record HasCounts (usable : ℕ) (servers : List ViewServer) (counts : List PinCount) (view : ViewParts) : Type 0 where
  pub same_usable : view.usable ≡ usable
  pub same_servers : view.servers ≡ servers
  pub same_counts : (place : Option ℕ) (want cost : ℕ) → pins_with view.pins place want cost ≡ counted_with counts place want cost

-- there is a view with these servers and counts
pub record AreOfSomeView (usable : ℕ) (servers : List ViewServer) (counts : List PinCount) : Type 0 where
  pub view : ViewParts
  pub lawful : IsView view
  pub counted : HasCounts usable servers counts view

-- the kind of the pins that are counted, where these servers are usable
abbrev pub counted_kind : ℕ → PinCount → PinKind
counted_kind usable c = record { place = c.place; permitted = permitted c.want usable; cost = c.cost }

-- the groups have as many pins of each kind as the counts, where these servers are usable
abbrev pub AreGroupsOfCounts : ℕ → List Group → List PinCount → Type 0
AreGroupsOfCounts usable groups counts = (kind : PinKind)
    → sum_by (λ c. if same_kind kind (counted_kind usable c) then c.count else 0) counts ≡ count_in groups kind

-- two sheets of one version that stand for one view are the same
abbrev pub OneSheetForAView : Type 0
OneSheetForAView = (view : ViewParts) (a b : SheetParts) → IsSheet a → IsSheet b → a.version ≡ b.version
    → StandsFor a view → StandsFor b view → a ≡ b
