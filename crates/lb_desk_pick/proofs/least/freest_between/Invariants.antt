use Rattle.std.proofs.Common.{◌≡◌, ◌-◌}
use Rattle.std.specs.Prelude.{filter, fold}
use Rattle.std.specs.List.{range_with_len}
use Rattle.lb_types.specs.Servers.{has}
use Rattle.lb_desk_pick.specs.Walks.{freer, is_as_free}
use Rattle.lb_desk_pick.proofs.least.freest_between.Given as goal

abbrev pub invariant-loop-i : goal.invariant-loop-i
invariant-loop-i l =
    l.freest ≡ fold (freer (is_as_free l.farm l.book)) l.fn.found (filter (has l.candidates) (range_with_len l.from (l.i - l.from)))
