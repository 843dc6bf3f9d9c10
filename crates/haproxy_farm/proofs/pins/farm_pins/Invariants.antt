use Rattle.std.proofs.Common.{◌≡◌, take}
use Rattle.haproxy_farm.specs.Farms.{farm_pins}
use Rattle.haproxy_farm.proofs.pins.farm_pins.Given as goal

abbrev pub invariant-loop-i : goal.invariant-loop-i
invariant-loop-i l = l.pins.items ≡ take l.i (farm_pins l.places)
