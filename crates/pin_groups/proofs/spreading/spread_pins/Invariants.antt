use Rattle.std.proofs.Common.{◌≡◌, length, map}
use Rattle.pin_set.specs.Views.{kind_of}
use Rattle.pin_groups.specs.Leftovers.{IsSpread, AreUsedUp}
use Rattle.pin_groups.proofs.spreading.spread_pins.Given as goal

abbrev pub invariant-loop-pin : goal.invariant-loop-pin
invariant-loop-pin l =
    (length l.places.items ≡ l.pin-index)
    × IsSpread l.rows (map (kind_of l.usable) l.pins) l.left.items l.places.items
    × AreUsedUp l.left.items l.used_to.items
