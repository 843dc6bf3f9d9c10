use Rattle.std.proofs.Common.{◌≡◌, ◌++◌, drop}
use Rattle.lb_cli_haproxy.specs.Sheets.{farm_with}
use Rattle.lb_cli_haproxy.proofs.sheet_farm.with_room.Given as goal

-- the servers so far and those that are left are all of them
abbrev pub invariant-loop-i : goal.invariant-loop-i
invariant-loop-i l = l.farm.items ++ farm_with l.share l.places l.i (drop l.i l.bare) ≡ farm_with l.share l.places 0 l.bare
