use Rattle.std.proofs.Common.{arith, ◌+◌, ◌-◌, ◌≤◌, ◌++◌, ◌≡◌, length, take, drop, ap, sym, ◌∙◌}
use Rattle.std.proofs.lemmas.Grind.{common_steps}
use Rattle.std.proofs.lemmas.List.{take_all}
use Rattle.std.specs.Io.KnownBytes.{append_known}
use Rattle.http_relay_wire.proofs.KnownBytes.{append_twice}
use Rattle.check_workers_probe.proofs.Courses.{take_sum}
use Rattle.check_workers_probe.proofs.moving.write_most.Goals as goal

pub loop-sent-preserved : goal.loop-sent-preserved
loop-sent-preserved g c =
    let sofar = c.loop-sent.invariant in
    let bytes = c.args.bytes.now in
    let sent = c.loop-sent.sent in
    let count = c.in-Ok.count in
    let rest = take (length bytes - sent) (drop sent bytes) in
    let size : length (drop sent bytes) ≤ length bytes - sent = grind (arith, common_steps, sofar.within) in
    let more = take count rest in
    let first = g.W.Wire.written c.args.wire.now in
    let sum : take (sent + count) bytes ≡ take sent bytes ++ more =
    take_sum bytes sent count sofar.within ∙ ap (λ xs. take sent bytes ++ take count xs) (sym (take_all (length bytes - sent) (drop sent bytes) size)) in
    record {
      within = grind (arith, common_steps, sofar.within, c.in-Ok.ensures.within);
      written = c.in-Ok.ensures.bytes ∙ ap (λ known. append_known known more) sofar.written ∙ append_twice first (take sent bytes) more ∙ ap (append_known first) (sym sum);
      faults = c.in-Ok.ensures.faults ∙ sofar.faults;
      reading = c.in-Ok.ensures.reading ∙ sofar.reading;
    }
