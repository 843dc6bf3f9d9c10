use Rattle.std.proofs.Common.{arith, take, ◌∙◌, ap, sym, length, ◌-◌}
use Rattle.std.proofs.lemmas.Grind.{common_steps}
use Rattle.std.specs.Io.KnownBytes.{prepend_known}
use Rattle.http_relay_wire.proofs.KnownBytes.{prepend_twice}
use Rattle.http_relay_wire.proofs.Rooms.{read_behind}
use Rattle.http_relay_head.proofs.filling.fill.Goals as goal

pub loop-spans-preserved : goal.loop-spans-preserved
loop-spans-preserved g c =
    let known = c.loop-spans.invariant in
    let within = c.in-Ok.ensures.within in
    let front = take c.loop-spans.filled c.loop-spans.room in
    let more = take c.in-Ok.count c.read.new.buffer in
    let behind = read_behind c.loop-spans.room c.read.new.buffer c.loop-spans.filled (length c.loop-spans.room - c.loop-spans.filled) c.in-Ok.count
    (omega (arith, known.room, known.filled)) within in
    record {
      room = grind (arith, common_steps, known.room, known.filled, c.read.auto.buffer);
      headers = grind (arith, known.headers, c.scan.auto.headers);
      filled = omega (arith, within, c.read.auto.buffer, known.room, known.filled);
      read = known.read ∙ ap (prepend_known front) c.in-Ok.ensures.bytes ∙ prepend_twice _ front more ∙ ap (λ text. prepend_known text (g.W.Wire.reading c.read.new.self).unread) (sym behind);
      faults = c.in-Ok.ensures.faults ∙ known.faults;
      written = c.in-Ok.ensures.written ∙ known.written;
    }
