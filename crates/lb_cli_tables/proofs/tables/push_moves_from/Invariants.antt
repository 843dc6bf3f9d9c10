use Rattle.std.proofs.Common.{◌≡◌, ◌++◌, take}
use Rattle.std.specs.List.{flat_map}
use Rattle.lb_cli_tables.specs.Tables.{move_line}
use Rattle.lb_cli_tables.proofs.tables.push_moves_from.Given as goal

-- the lines of the places so far
abbrev pub invariant-loop-to : goal.invariant-loop-to
invariant-loop-to l = l.text.items ≡ l.fn.text.items ++ flat_map (move_line l.plan l.from) (take l.to-index l.places)
