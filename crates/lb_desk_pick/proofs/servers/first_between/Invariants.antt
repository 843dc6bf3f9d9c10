use Rattle.std.proofs.Common.{◌≡◌, ◌-◌, None}
use Rattle.std.specs.List.{find, range_with_len}
use Rattle.lb_types.specs.Servers.{has}
use Rattle.lb_desk_pick.proofs.servers.first_between.Given as goal

abbrev pub invariant-loop-i : goal.invariant-loop-i
invariant-loop-i l = find (has l.set) (range_with_len l.from (l.i - l.from)) ≡ None
