use Rattle.std.proofs.Common.{◌≡◌, ℕ, ◌&&◌, ltb}
use Rattle.lb_types.specs.Servers.{has}
use Rattle.server_state.specs.Farm.{capacity_of}
use Rattle.lb_desk_pick.specs.Walks.{pins_without}
use Rattle.lb_desk_pick.proofs.candidates.with_room_for_a_pin.Given as goal

abbrev pub invariant-loop-i : goal.invariant-loop-i
invariant-loop-i l =
    (s : ℕ) → has l.found s ≡ (ltb s l.i && (has l.permitted s && ltb (pins_without l.book l.lost s) (capacity_of l.farm s)))
