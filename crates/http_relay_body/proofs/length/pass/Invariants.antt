use Rattle.std.proofs.Common.{◌≡◌, ℕ, ◌+◌, ◌<◌, ◌≤◌, List, length}
use Rattle.std.specs.Io.KnownBytes.{append_known}
use Rattle.http_relay_body.specs.Moves.{Taken}
use Rattle.http_relay_body.proofs.length.pass.Given as goal

-- what was taken is written, and so many bytes are left
abbrev pub invariant-loop-left : goal.invariant-loop-left
invariant-loop-left g l = record {
  text : List ℕ;
  room : 0 < length l.room;
  taken : Taken l.fn.at_hand l.at_hand (g.C.Wire.reading l.fn.client).unread (g.C.Wire.reading l.client).unread text;
  size : length text + l.left ≡ l.fn.count;
  fewer : length l.at_hand + (g.C.Wire.reading l.client).left ≤ length l.fn.at_hand + (g.C.Wire.reading l.fn.client).left;
  sent : g.S.Wire.written l.server ≡ append_known (g.S.Wire.written l.fn.server) text;
  client : g.C.Wire.faults l.client ≡ g.C.Wire.faults l.fn.client;
  server : g.S.Wire.faults l.server ≡ g.S.Wire.faults l.fn.server;
  client_written : g.C.Wire.written l.client ≡ g.C.Wire.written l.fn.client;
  server_reading : g.S.Wire.reading l.server ≡ g.S.Wire.reading l.fn.server;
}

abbrev pub decreases-loop-left : goal.decreases-loop-left
decreases-loop-left g l = length l.at_hand + (g.C.Wire.reading l.client).left
