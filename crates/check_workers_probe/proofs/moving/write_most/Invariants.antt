use Rattle.std.proofs.Common.{length, ◌-◌, ◌≡◌, ◌≤◌, take}
use Rattle.std.specs.Io.KnownBytes.{append_known}
use Rattle.check_workers_probe.proofs.moving.write_most.Given as goal

-- so many bytes went out
abbrev pub invariant-loop-sent : goal.invariant-loop-sent
invariant-loop-sent g l = record {
  within : l.sent ≤ length l.bytes;
  written : g.W.Wire.written l.wire ≡ append_known (g.W.Wire.written l.fn.wire) (take l.sent l.bytes);
  faults : g.W.Wire.faults l.wire ≡ g.W.Wire.faults l.fn.wire;
  reading : g.W.Wire.reading l.wire ≡ g.W.Wire.reading l.fn.wire;
}

abbrev pub decreases-loop-sent : goal.decreases-loop-sent
decreases-loop-sent g l = length l.bytes - l.sent
