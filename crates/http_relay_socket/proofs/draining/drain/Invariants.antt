use Rattle.std.proofs.Common.{◌≡◌, ℕ, ◌+◌, ◌<◌, List, length}
use Rattle.std.specs.Io.KnownBytes.{prepend_known}
use Rattle.http_relay_socket.proofs.draining.drain.Given as goal
use Rattle.http_relay_socket.specs.declared.draining.TheConstants.{MOST_DRAINED}

-- what was read is dropped, and so many bytes may still be read
abbrev pub invariant-loop-left : goal.invariant-loop-left
invariant-loop-left g l = record {
  text : List ℕ;
  room : 0 < length l.room;
  read : (g.W.Wire.reading l.fn.wire).unread ≡ prepend_known text (g.W.Wire.reading l.wire).unread;
  size : length text + l.left ≡ MOST_DRAINED;
  faults : g.W.Wire.faults l.wire ≡ g.W.Wire.faults l.fn.wire;
  written : g.W.Wire.written l.wire ≡ g.W.Wire.written l.fn.wire;
}

abbrev pub decreases-loop-left : goal.decreases-loop-left
decreases-loop-left g l = l.left
