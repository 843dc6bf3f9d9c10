use Rattle.std.proofs.Common.{◌≡◌, ℕ, List, ◌++◌, length}
use Rattle.std.specs.Io.KnownBytes.{append_known}
use Rattle.http_relay_wire.proofs.wire.write_all.Given as goal

-- a front of the bytes is written, and the rest is to be written
abbrev pub invariant-loop-rest : goal.invariant-loop-rest
invariant-loop-rest g l = record {
  front : List ℕ;
  parted : l.fn.bytes ≡ front ++ l.rest;
  written : g.W.Wire.written l.wire ≡ append_known (g.W.Wire.written l.fn.wire) front;
  faults : g.W.Wire.faults l.wire ≡ g.W.Wire.faults l.fn.wire;
  reading : g.W.Wire.reading l.wire ≡ g.W.Wire.reading l.fn.wire;
}

abbrev pub decreases-loop-rest : goal.decreases-loop-rest
decreases-loop-rest g l = length l.rest
