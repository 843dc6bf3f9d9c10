use Rattle.std.proofs.Common.{◌≡◌, ◌≤◌, ◌++◌, List, ℕ, length, take}
use Rattle.std.specs.Io.KnownBytes.{prepend_known}
use Rattle.check_workers_probe.proofs.moving.hear.Given as goal

-- what had come and what was read stand at the front of the room
abbrev pub invariant-loop-wire : goal.invariant-loop-wire
invariant-loop-wire g l = record {
  room : length l.room ≡ 16384;
  filled : l.filled ≤ 16384;
  text : (text : List ℕ) × (take l.filled l.room ≡ take l.fn.filled l.fn.room ++ text)
      × ((g.W.Wire.reading l.fn.wire).unread ≡ prepend_known text (g.W.Wire.reading l.wire).unread);
  faults : g.W.Wire.faults l.wire ≡ g.W.Wire.faults l.fn.wire;
  written : g.W.Wire.written l.wire ≡ g.W.Wire.written l.fn.wire;
}

abbrev pub decreases-loop-wire : goal.decreases-loop-wire
decreases-loop-wire g l = (g.W.Wire.reading l.wire).left
