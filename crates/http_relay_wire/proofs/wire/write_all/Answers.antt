use Rattle.std.proofs.Common.{arith, ◌++◌, take, ◌∙◌}
use Rattle.std.proofs.lemmas.Grind.{common_steps}
use Rattle.http_relay_wire.proofs.KnownBytes.{append_twice}
use Rattle.http_relay_wire.proofs.wire.write_all.Goals as goal

pub loop-rest-preserved : goal.loop-rest-preserved
loop-rest-preserved g c =
    let sofar = c.loop-rest.invariant in
    let sent = take c.in_ok-count.count c.loop-rest.rest.now in
    record {
      front = sofar.front ++ sent;
      parted = grind (arith, common_steps, sofar.parted);
      written = rw (c.in_ok-count.ensures.bytes, sofar.written) (append_twice _ sofar.front sent);
      faults = c.in_ok-count.ensures.faults ∙ sofar.faults;
      reading = c.in_ok-count.ensures.reading ∙ sofar.reading;
    }
