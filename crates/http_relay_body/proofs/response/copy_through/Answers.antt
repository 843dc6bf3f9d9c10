use Rattle.std.proofs.Common.{◌≡◌, Ok, Err, refl, subst, ◌∙◌, arith}
use Rattle.http_relay_body.specs.Copies.{server_faults, client_faults}
use Rattle.http_relay_body.specs.Copying.{CopiedOn, told}
use Rattle.http_relay_body.proofs.Copies.{copied_nothing, copied_twice}
use Rattle.http_relay_body.proofs.response.copy_through.Goals as goal

pub loop-later-init : goal.loop-later-init
loop-later-init g c = record {
  room = c.requires;
  copied = copied_nothing c.args.before (g.S.Wire.reading c.args.server.now) (g.C.Wire.written c.args.client.now) (omega (arith, c.ranges.before.fits));
  server = refl;
  client = refl;
  server_written = refl;
  client_reading = refl;
}

pub returns-in-Err-clause-copied : goal.returns-in-Err-clause-copied
returns-in-Err-clause-copied g c = copied_twice c.args.before _ _ _ _ _ _ c.loop-later.copied (Err c.in-Err.fault) c.loop-later.invariant.copied c.in-Err.ensures.copied

pub returns-in-Ok-Ended-clause-copied : goal.returns-in-Ok-Ended-clause-copied
returns-in-Ok-Ended-clause-copied g c =
    let reading = g.S.Wire.reading in
    let written = g.C.Wire.written in
    let piece = subst (λ p. CopiedOn c.loop-later.copied (reading c.loop-later.server) (reading c.copy_piece.new.server)
    (written c.loop-later.client) (written c.copy_piece.new.client) (told (Ok p))) c.in-Ok-Ended.field-0-is c.in-Ok-Ended.ensures.copied in
    copied_twice c.args.before _ _ _ _ _ _ c.loop-later.copied (Ok c.in-Ok-Ended.copied) c.loop-later.invariant.copied piece

pub returns-then-count-room-clause-copied : goal.returns-then-count-room-clause-copied
returns-then-count-room-clause-copied g c =
    let reading = g.S.Wire.reading in
    let written = g.C.Wire.written in
    let piece = subst (λ p. CopiedOn c.loop-later.copied (reading c.loop-later.server) (reading c.copy_piece.new.server)
    (written c.loop-later.client) (written c.copy_piece.new.client) (told (Ok p))) c.in-Ok-Goes.field-0-is c.in-Ok-Goes.ensures.copied in
    copied_twice c.args.before _ _ _ _ _ _ c.loop-later.copied (Ok c.in-Ok-Goes.later) c.loop-later.invariant.copied piece

pub loop-later-preserved : goal.loop-later-preserved
loop-later-preserved g c =
    let known = c.loop-later.invariant in
    let reading = g.S.Wire.reading in
    let written = g.C.Wire.written in
    let faults = subst (λ p. g.S.Wire.faults c.copy_piece.new.server ≡ server_faults (told (Ok p)) (g.S.Wire.faults c.loop-later.server))
    c.in-Ok-Goes.field-0-is c.in-Ok-Goes.ensures.server in
    let failed = subst (λ p. g.C.Wire.faults c.copy_piece.new.client ≡ client_faults (told (Ok p)) (g.C.Wire.faults c.loop-later.client))
    c.in-Ok-Goes.field-0-is c.in-Ok-Goes.ensures.client in
    let piece = subst (λ p. CopiedOn c.loop-later.copied (reading c.loop-later.server) (reading c.copy_piece.new.server)
    (written c.loop-later.client) (written c.copy_piece.new.client) (told (Ok p))) c.in-Ok-Goes.field-0-is c.in-Ok-Goes.ensures.copied in
    record {
      room = omega (arith, c.copy_piece.auto.room, known.room);
      copied = copied_twice c.args.before _ _ _ _ _ _ c.loop-later.copied (Ok c.in-Ok-Goes.later) known.copied piece;
      server = faults ∙ known.server;
      client = failed ∙ known.client;
      server_written = c.in-Ok-Goes.ensures.server_written ∙ known.server_written;
      client_reading = c.in-Ok-Goes.ensures.client_reading ∙ known.client_reading;
    }
