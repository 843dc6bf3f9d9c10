use Rattle.std.proofs.Common.{◌≡◌, ◌-◌, ◌≤◌, length, take}
use Rattle.std.specs.Io.KnownBytes.{append_known}
use Rattle.http_relay_exchange.proofs.heading.send_joined.Given as goal

-- the first bytes went out
abbrev pub invariant-loop-sent : goal.invariant-loop-sent
invariant-loop-sent g l = record {
  within : l.sent ≤ length l.bytes;
  written : g.S.Wire.written l.server ≡ append_known (g.S.Wire.written l.fn.server) (take l.sent l.bytes);
  faults : g.S.Wire.faults l.server ≡ g.S.Wire.faults l.fn.server;
  reading : g.S.Wire.reading l.server ≡ g.S.Wire.reading l.fn.server;
}

abbrev pub decreases-loop-sent : goal.decreases-loop-sent
decreases-loop-sent g l = l.head - l.sent
