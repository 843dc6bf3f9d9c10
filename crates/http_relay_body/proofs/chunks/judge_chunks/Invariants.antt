use Rattle.std.proofs.Common.{◌≡◌, ℕ, ◌+◌, ◌≤◌, List, ◌++◌, length}
use Rattle.http_relay_body.specs.Chunks.{IsChunked}
use Rattle.http_relay_body.specs.Moves.{Begins}
use Rattle.http_relay_body.specs.Rooms.{stand, Carried}
use Rattle.http_relay_body.proofs.chunks.judge_chunks.Given as goal

-- what was judged goes before the rest of a chunked body
abbrev pub invariant-loop : goal.invariant-loop
invariant-loop g l = record {
  done : List ℕ;
  carried : Carried (stand l.fn.at_hand (g.C.Wire.reading l.fn.client) (g.S.Wire.written l.fn.server) l.fn.room) (stand l.at_hand (g.C.Wire.reading l.client) (g.S.Wire.written l.server) l.room) done;
  joins : (rest : List ℕ) → IsChunked rest → IsChunked (done ++ rest);
  skips : (rest : List ℕ) → Begins {A = Unit {0}} (λ _ part. IsChunked part) (done ++ rest) → Begins {A = Unit {0}} (λ _ part. IsChunked part) rest;
  few : length l.room.ahead ≤ 4;
  client : g.C.Wire.faults l.client ≡ g.C.Wire.faults l.fn.client;
  server : g.S.Wire.faults l.server ≡ g.S.Wire.faults l.fn.server;
  client_written : g.C.Wire.written l.client ≡ g.C.Wire.written l.fn.client;
  server_reading : g.S.Wire.reading l.server ≡ g.S.Wire.reading l.fn.server;
}

abbrev pub decreases-loop : goal.decreases-loop
decreases-loop g l = length l.at_hand + (g.C.Wire.reading l.client).left
