use Rattle.std.proofs.Common.{◌≡◌, ◌&&◌, None}
use Rattle.std.specs.List.{find, range_with_len}
use Rattle.lb_types.specs.Servers.{has}
use Rattle.lb_desk_pick.specs.Walks.{has_connection}
use Rattle.lb_desk_pick.proofs.free.first_with_connection.Given as goal

abbrev pub invariant-loop-i : goal.invariant-loop-i
invariant-loop-i l = find (λ s. has l.candidates s && has_connection l.farm l.book s) (range_with_len 0 l.i) ≡ None
