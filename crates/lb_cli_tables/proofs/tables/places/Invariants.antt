use Rattle.std.proofs.Common.{◌≡◌}
use Rattle.lb_cli_tables.specs.Tables.{places}
use Rattle.lb_cli_tables.proofs.tables.places.Given as goal

-- none, and the servers so far
abbrev pub invariant-loop-index : goal.invariant-loop-index
invariant-loop-index l = l.all.items ≡ places l.index
