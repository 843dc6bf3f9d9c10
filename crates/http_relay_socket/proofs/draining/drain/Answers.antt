use Rattle.std.proofs.Common.{arith, ◌+◌, ◌++◌, length, length-append, take, ap, ◌∙◌}
use Rattle.std.proofs.lemmas.Grind.{common_steps}
use Rattle.std.proofs.lemmas.List.{length-take-le}
use Rattle.std.specs.Io.KnownBytes.{prepend_known}
use Rattle.http_relay_wire.proofs.KnownBytes.{prepend_twice}
use Rattle.http_relay_socket.proofs.draining.drain.Goals as goal

pub loop-left-preserved : goal.loop-left-preserved
loop-left-preserved g c =
    let known = c.loop-left.invariant in
    let part = take c.in-Ok.count c.read.new.buffer in
    let within = c.in-Ok.ensures.within in
    let size = length-append known.text part ∙ ap (λ n. length known.text + n) (length-take-le c.in-Ok.count c.read.new.buffer within) in
    record {
      text = known.text ++ part;
      room = grind (arith, common_steps, known.room, c.read.auto.buffer, c.min-most.ensures, c.loop-left-test.true);
      read = known.read ∙ ap (prepend_known known.text) c.in-Ok.ensures.bytes ∙ prepend_twice _ known.text part;
      size = grind (arith, common_steps, size, known.size, within, c.read.auto.buffer, c.min-most.ensures);
      faults = c.in-Ok.ensures.faults ∙ known.faults;
      written = c.in-Ok.ensures.written ∙ known.written;
    }
