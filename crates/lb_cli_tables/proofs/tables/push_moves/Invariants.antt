use Rattle.std.proofs.Common.{◌≡◌, ◌++◌, take}
use Rattle.std.specs.List.{flat_map}
use Rattle.lb_cli_tables.specs.Tables.{moves_from}
use Rattle.lb_cli_tables.proofs.tables.push_moves.Given as goal

-- the lines of the places so far
abbrev pub invariant-loop-from : goal.invariant-loop-from
invariant-loop-from l = l.text.items ≡ l.fn.text.items ++ flat_map (moves_from l.plan l.places) (take l.from-index l.places)
