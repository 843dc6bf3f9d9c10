use Rattle.std.proofs.Common.{◌≡◌, ◌++◌, map, take}
use Rattle.lb_run_doors.specs.Doors.{door_at, door_view}
use Rattle.lb_run_doors.specs.Handed.{KeepsAll}
use Rattle.lb_run_doors.proofs.doors.add_doors.Given as goal

-- the doors at the addresses so far
abbrev pub invariant-loop-endpoint : goal.invariant-loop-endpoint
invariant-loop-endpoint g l =
    (map door_view l.doors.items ≡ map door_view l.fn.doors.items ++ map (door_at l.place l.frontend) (take l.endpoint-index l.frontend.rules.binds))
    × KeepsAll l.fn.waiting.items l.fn.doors.items l.waiting.items l.doors.items
