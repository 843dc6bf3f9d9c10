use Rattle.std.proofs.Common.{◌≡◌, ◌≤◌, ◌-◌, [], length, map, take}
use Rattle.lb_run_doors.specs.Doors.{door_view, doors_from}
use Rattle.lb_run_doors.specs.Handed.{KeepsAll}
use Rattle.lb_run_doors.proofs.doors.client_doors.Given as goal

-- the doors of the frontends so far
abbrev pub invariant-loop-place : goal.invariant-loop-place
invariant-loop-place g l =
    (l.place ≤ length l.frontends) × (map door_view l.doors.items ≡ doors_from 0 (take l.place l.frontends))
    × KeepsAll l.fn.handed.items [] l.waiting.items l.doors.items

abbrev pub decreases-loop-place : goal.decreases-loop-place
decreases-loop-place g l = length l.frontends - l.place
