use Rattle.std.proofs.Common.{◌≡◌, ℕ, ◌+◌, ◌≤◌, List, length}
use Rattle.http_relay_body.specs.Rooms.{stand, Carried}
use Rattle.http_relay_body.proofs.chunks.data.pass_bytes.Given as goal

-- so many bytes were judged as are not left, and no more stand ahead than must still come
abbrev pub invariant-loop-left : goal.invariant-loop-left
invariant-loop-left g l = record {
  done : List ℕ;
  carried : Carried (stand l.fn.at_hand (g.C.Wire.reading l.fn.client) (g.S.Wire.written l.fn.server) l.fn.room) (stand l.at_hand (g.C.Wire.reading l.client) (g.S.Wire.written l.server) l.room) done;
  size : length done + l.left ≡ l.fn.count;
  few : length l.room.ahead ≤ l.left + 6;
  client : g.C.Wire.faults l.client ≡ g.C.Wire.faults l.fn.client;
  server : g.S.Wire.faults l.server ≡ g.S.Wire.faults l.fn.server;
  client_written : g.C.Wire.written l.client ≡ g.C.Wire.written l.fn.client;
  server_reading : g.S.Wire.reading l.server ≡ g.S.Wire.reading l.fn.server;
}

abbrev pub decreases-loop-left : goal.decreases-loop-left
decreases-loop-left g l = length l.at_hand + (g.C.Wire.reading l.client).left
