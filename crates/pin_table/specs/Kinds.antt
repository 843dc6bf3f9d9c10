-- What a table counts its pins by: place, wanted servers and cost. That it counts them is our own.
use Rattle.std.specs.Prelude.{◌≡◌, ℕ, Bool, ◌&&◌, ◌==◌, Option, List, map, count_by, sum_by, if◌then◌else◌}
use Rattle.lb_types_pins.specs.Kinds.{same_place}
use Rattle.pin_set.specs.declared.pin_count.PinCount.{PinCount}
use Rattle.pin_groups.specs.Counts.{counted_with, pins_with}
use Rattle.pin_set.specs.declared.table_pin.TablePin.{TablePin}
use Rattle.pin_table.specs.declared.table_kind.TableKind.{TableKind}

abbrev pub kind_of : TablePin → TableKind
kind_of p = record { place = p.pin.place; want = p.pin.id.want; cost = p.pin.cost }

-- the kinds have one place, one set of wanted servers and one cost
abbrev pub same_kind : TableKind → TableKind → Bool
same_kind a b = same_place a.place b.place && (a.want == b.want && a.cost == b.cost)

-- how many of the pins are of this kind
abbrev pub pins_of : List TablePin → TableKind → ℕ
pins_of pins kind = count_by (λ p. same_kind kind (kind_of p)) pins

-- how many pins of this kind the counts say there are
abbrev pub counted_of : List (TableKind × ℕ) → TableKind → ℕ
counted_of counts kind = sum_by (λ c. if same_kind kind c.0 then c.1 else 0) counts

-- the counts say of each kind how many of the pins are of it
abbrev pub AreCounts : List TablePin → List (TableKind × ℕ) → Type 0
AreCounts pins counts = (kind : TableKind) → counted_of counts kind ≡ pins_of pins kind

-- the counts have as many pins of each place, wanted servers and cost as there are
abbrev pub ArePinCounts : List TablePin → List PinCount → Type 0
ArePinCounts pins counts =
    (place : Option ℕ) (want cost : ℕ) → counted_with counts place want cost ≡ pins_with (map (λ p. p.pin) pins) place want cost
