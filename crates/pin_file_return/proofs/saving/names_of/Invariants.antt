use Rattle.std.proofs.Common.{◌≡◌}
use Rattle.std.specs.Prelude.{filter_map}
use Rattle.lb_types.specs.Servers.{members_below}
use Rattle.pin_file_return.specs.Saves.{name_at}
use Rattle.pin_file_return.proofs.saving.names_of.Given as goal

-- the names of the servers so far
abbrev pub invariant-loop-i : goal.invariant-loop-i
invariant-loop-i l = l.names.items ≡ filter_map (name_at l.servers) (members_below l.i l.set)
