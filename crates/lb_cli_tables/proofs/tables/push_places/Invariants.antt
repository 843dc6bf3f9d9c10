use Rattle.std.proofs.Common.{◌≡◌, ◌++◌, take}
use Rattle.std.specs.List.{flat_map}
use Rattle.lb_cli_tables.specs.Tables.{place_line}
use Rattle.lb_cli_tables.proofs.tables.push_places.Given as goal

-- the lines of the places so far
abbrev pub invariant-loop-place : goal.invariant-loop-place
invariant-loop-place l = l.text.items ≡ l.fn.text.items ++ flat_map (place_line l.plan) (take l.place-index l.places)
