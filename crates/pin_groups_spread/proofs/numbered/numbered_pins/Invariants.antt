use Rattle.std.proofs.Common.{◌≡◌, length, map, take}
use Rattle.pin_groups_spread.specs.Numbered.{AreNumberedPins, plain_of}
use Rattle.pin_groups_spread.proofs.numbered.numbered_pins.Given as goal

abbrev pub invariant-loop-i : goal.invariant-loop-i
invariant-loop-i l = (length l.pins.items ≡ l.i) × AreNumberedPins l.n l.pins.items × (map plain_of l.pins.items ≡ take l.i l.plain)
