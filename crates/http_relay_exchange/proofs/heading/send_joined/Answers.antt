use Rattle.std.proofs.Common.{◌∙◌, ap, arith}
use Rattle.http_relay_wire.specs.Faults.{after_write_fault}
use Rattle.http_relay_body.proofs.Fronts.{behind_within}
use Rattle.http_relay_body.proofs.Moves.{append_nothing}
use Rattle.http_relay_exchange.proofs.Joined.{wrote_more, head_unwritten, front_unwritten}
use Rattle.http_relay_exchange.proofs.heading.send_joined.Goals as goal

pub loop-sent-preserved : goal.loop-sent-preserved
loop-sent-preserved g c =
    let known = c.loop-sent.invariant in
    let bytes = c.args.bytes.now in
    let step = c.in-Ok.ensures in
    record {
      within = behind_within c.loop-sent.sent c.in-Ok.count bytes known.within step.within;
      written = wrote_more (g.S.Wire.written c.args.server.now) (g.S.Wire.written c.loop-sent.server) (g.S.Wire.written c.write.new.self)
          bytes c.loop-sent.sent c.in-Ok.count known.written step.bytes;
      faults = step.faults ∙ known.faults;
      reading = step.reading ∙ known.reading;
    }

pub returns-in-Err : goal.returns-in-Err
returns-in-Err g c =
    let known = c.loop-sent.invariant in
    let failed = c.in-Err.ensures in
    head_unwritten c.args.bytes.now c.args.head c.loop-sent.sent c.in-Err.fault
    (g.S.Wire.written c.args.server.now) (g.S.Wire.written c.write.new.self)
    (g.S.Wire.reading c.args.server.now) (g.S.Wire.reading c.write.new.self)
    (g.S.Wire.faults c.args.server.now) (g.S.Wire.faults c.write.new.self)
    (omega (arith, c.loop-sent-test.true))
    (failed.bytes ∙ append_nothing (g.S.Wire.written c.loop-sent.server) ∙ known.written)
    (failed.reading ∙ known.reading)
    (failed.faults ∙ ap (after_write_fault c.in-Err.fault) known.faults)

pub returns-in-Err-write_all : goal.returns-in-Err-write_all
returns-in-Err-write_all g c =
    let known = c.loop-sent.invariant in
    let failed = c.in-Err-write_all.ensures in
    front_unwritten c.args.bytes.now c.args.head c.loop-sent.sent c.in-Err-write_all.fault
    (g.S.Wire.written c.args.server.now) (g.S.Wire.written c.loop-sent.server) (g.S.Wire.written c.write_all.new.wire)
    (g.S.Wire.reading c.args.server.now) (g.S.Wire.reading c.write_all.new.wire)
    (g.S.Wire.faults c.args.server.now) (g.S.Wire.faults c.write_all.new.wire)
    (omega (arith, c.loop-sent-test.false))
    known.written
    failed.err
    (failed.reading ∙ known.reading)
    (failed.faults ∙ ap (after_write_fault c.in-Err-write_all.fault) known.faults)
