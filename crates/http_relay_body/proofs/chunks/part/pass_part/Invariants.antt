use Rattle.std.proofs.Common.{◌≡◌, ℕ, ◌+◌, ◌≤◌, [], length, take}
use Rattle.http_relay_body.specs.Moves.{Begins}
use Rattle.http_relay_body.specs.Parts.{IsPartText}
use Rattle.http_relay_body.specs.Rooms.{stand, Carried, MustFollow}
use Rattle.http_relay_body.specs.Trailers.{Walked}
use Rattle.http_relay_body.proofs.chunks.part.pass_part.Given as goal

-- no part stands in the bytes that were seen, and no more bytes stand behind them than must still come; the walk has come through a
-- front of them
abbrev pub invariant-loop-len : goal.invariant-loop-len
invariant-loop-len g l = record {
  seen : ℕ;
  least : ℕ;
  carried : Carried (stand l.fn.at_hand (g.C.Wire.reading l.fn.client) (g.S.Wire.written l.fn.server) l.fn.room) (stand l.at_hand (g.C.Wire.reading l.client) (g.S.Wire.written l.server) l.room) [];
  within : seen ≤ length l.room.ahead;
  none : ¬ Begins (IsPartText l.part) (take seen l.room.ahead);
  must : MustFollow l.part (take seen l.room.ahead) least;
  few : length l.room.ahead ≤ seen + least;
  walked : Walked l.walk l.room.ahead;
  client : g.C.Wire.faults l.client ≡ g.C.Wire.faults l.fn.client;
  server : g.S.Wire.faults l.server ≡ g.S.Wire.faults l.fn.server;
  client_written : g.C.Wire.written l.client ≡ g.C.Wire.written l.fn.client;
  server_reading : g.S.Wire.reading l.server ≡ g.S.Wire.reading l.fn.server;
}

abbrev pub decreases-loop-len : goal.decreases-loop-len
decreases-loop-len g l = length l.at_hand + (g.C.Wire.reading l.client).left
