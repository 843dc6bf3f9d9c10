use Rattle.std.proofs.Common.{◌≡◌, ◌<◌, length, Ok}
use Rattle.http_relay_body.specs.Copying.{CopiedOn}
use Rattle.http_relay_body.proofs.response.copy_through.Given as goal

-- what was read is written
abbrev pub invariant-loop-later : goal.invariant-loop-later
invariant-loop-later g l = record {
  room : 0 < length l.room;
  copied : CopiedOn l.fn.before (g.S.Wire.reading l.fn.server) (g.S.Wire.reading l.server) (g.C.Wire.written l.fn.client) (g.C.Wire.written l.client)
      (Ok l.copied);
  server : g.S.Wire.faults l.server ≡ g.S.Wire.faults l.fn.server;
  client : g.C.Wire.faults l.client ≡ g.C.Wire.faults l.fn.client;
  server_written : g.S.Wire.written l.server ≡ g.S.Wire.written l.fn.server;
  client_reading : g.C.Wire.reading l.client ≡ g.C.Wire.reading l.fn.client;
}

abbrev pub decreases-loop-later : goal.decreases-loop-later
decreases-loop-later g l = (g.S.Wire.reading l.server).left
