use Rattle.std.proofs.Common.{arith, subst, take, inl, inr, ◌≡◌, ◌<◌, ◌++◌, ◌∙◌, ap, sym, refl, length, ◌-◌, append_assoc}
use Rattle.std.proofs.lemmas.Grind.{common_steps}
use Rattle.std.specs.Io.KnownBytes.{prepend_known}
use Rattle.http_relay_wire.proofs.KnownBytes.{prepend_twice, prepend_nothing}
use Rattle.http_relay_wire.proofs.Rooms.{read_behind}
use Rattle.check_workers_probe.specs.Probes.{IsUnfinished}
use Rattle.check_workers_probe.specs.declared.judge.TheConstants.{MOST_BYTES}
use Rattle.check_workers_probe.proofs.Courses.{read_nothing, told_end}
use Rattle.std.proofs.lemmas.List.{length-take-le}
use Rattle.check_workers_probe.proofs.moving.hear.Goals as goal

pub loop-wire-preserved : goal.loop-wire-preserved
loop-wire-preserved g c =
    let known = c.loop-wire.invariant in
    let within = c.in-Ok.ensures.within in
    let more = take c.in-Ok.count c.read.new.buffer in
    let behind = read_behind c.loop-wire.room c.read.new.buffer c.loop-wire.filled (length c.loop-wire.room - c.loop-wire.filled) c.in-Ok.count
    (omega (arith, known.room, known.filled)) within in
    record {
      room = grind (arith, common_steps, known.room, known.filled, c.read.auto.buffer);
      filled = omega (arith, within, c.read.auto.buffer, known.room, known.filled);
      text = (
        known.text.0 ++ more,
        behind ∙ ap (λ xs. xs ++ more) known.text.1 ∙ append_assoc _ known.text.0 more,
        known.text.2 ∙ ap (prepend_known known.text.0) c.in-Ok.ensures.bytes ∙ prepend_twice _ known.text.0 more,
      );
      faults = c.in-Ok.ensures.faults ∙ known.faults;
      written = c.in-Ok.ensures.written ∙ known.written;
    }

pub returns-then-count-eq0-clause-heard : goal.returns-then-count-eq0-clause-heard
returns-then-count-eq0-clause-heard g c =
    let known = c.loop-wire.invariant in
    let room = c.loop-wire.room in
    let filled = c.loop-wire.filled in
    let buffer = c.read.new.buffer in
    let zero : c.in-Ok.count ≡ 0 = omega (arith, c.if-count-eq0.true) in
    let same = read_nothing room buffer filled (length room - filled) (omega (arith, known.room, known.filled)) in
    let front : length (take filled room) ≡ filled = length-take-le filled room (omega (arith, known.room, known.filled)) in
    let short : length (take filled room) < 16384 = c.in-Unfinished.ensures.2 in
    let some : 0 < length buffer = omega (arith, front, short, c.read.auto.buffer, known.room) in
    let told = told_end c.in-Ok.count (length buffer) zero some in
    let still = c.in-Ok.ensures.bytes ∙ ap (λ n. prepend_known (take n buffer) (g.W.Wire.reading c.read.new.self).unread) zero ∙ prepend_nothing _ in
    record {
      text = known.text.0;
      came_is = same ∙ known.text.1;
      read = known.text.2 ∙ ap (prepend_known known.text.0) still;
      answers = inr (inr (inl ((refl, subst (IsUnfinished MOST_BYTES) (sym same) c.in-Unfinished.ensures, grind (arith, common_steps, c.in-Ok.ensures.end, told), grind (arith, common_steps, c.in-Ok.ensures.ended, told)), c.in-Ok.ensures.faults ∙ known.faults)));
    }
