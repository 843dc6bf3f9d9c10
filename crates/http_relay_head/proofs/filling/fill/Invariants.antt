use Rattle.std.proofs.Common.{◌≡◌, ◌≤◌, length, take}
use Rattle.std.specs.Io.KnownBytes.{prepend_known}
use Rattle.http_relay_head.proofs.filling.fill.Given as goal

-- what was read stands at the front of the room
abbrev pub invariant-loop-spans : goal.invariant-loop-spans
invariant-loop-spans g l = record {
  room : length l.room ≡ 16384;
  headers : length l.headers ≡ 100;
  filled : l.filled ≤ 16384;
  read : (g.W.Wire.reading l.fn.wire).unread ≡ prepend_known (take l.filled l.room) (g.W.Wire.reading l.wire).unread;
  faults : g.W.Wire.faults l.wire ≡ g.W.Wire.faults l.fn.wire;
  written : g.W.Wire.written l.wire ≡ g.W.Wire.written l.fn.wire;
}

abbrev pub decreases-loop-spans : goal.decreases-loop-spans
decreases-loop-spans g l = (g.W.Wire.reading l.wire).left
