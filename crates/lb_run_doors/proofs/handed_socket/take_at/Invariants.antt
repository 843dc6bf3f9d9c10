use Rattle.std.proofs.Common.{◌≡◌, ◌-◌}
use Rattle.lb_run_doors.proofs.handed_socket.take_at.Given as goal

-- nothing is taken before it is found
abbrev pub invariant-loop-place : goal.invariant-loop-place
invariant-loop-place l = l.sockets ≡ l.fn.sockets

abbrev pub decreases-loop-place : goal.decreases-loop-place
decreases-loop-place l = l.sockets.len - l.place
