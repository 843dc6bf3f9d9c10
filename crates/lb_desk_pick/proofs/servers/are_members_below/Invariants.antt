use Rattle.std.proofs.Common.{◌≡◌, ◌≤◌, length}
use Rattle.lb_types.specs.Servers.{members_below}
use Rattle.lb_desk_pick.proofs.servers.are_members_below.Given as goal

abbrev pub invariant-loop-i : goal.invariant-loop-i
invariant-loop-i l = (l.below ≡ length (members_below l.i l.set)) × (l.below ≤ l.i)
