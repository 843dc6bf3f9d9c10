use Rattle.std.proofs.Common.{arith, sym}
use Rattle.std.proofs.lemmas.List.{take_more}
use Rattle.http_relay_body.proofs.Sights.{told_least, digit_pushed}
use Rattle.http_relay_body.proofs.chunks.part.size_line.least_size.Goals as goal

pub returns-in_default-clause-least : goal.returns-in_default-clause-least
returns-in_default-clause-least c = told_least c.args.text.now c.loop-byte.byte-index c.loop-byte.size c.loop-byte.invariant.digits c.loop-byte.invariant.size

pub returns-then-size-ge-ROOM-clause-least : goal.returns-then-size-ge-ROOM-clause-least
returns-then-size-ge-ROOM-clause-least c = told_least c.args.text.now c.loop-byte.byte-index c.loop-byte.size c.loop-byte.invariant.digits c.loop-byte.invariant.size

pub returns-clause-least : goal.returns-clause-least
returns-clause-least c = told_least c.args.text.now c.loop-byte.byte-index c.loop-byte.size c.loop-byte.invariant.digits c.loop-byte.invariant.size

pub loop-byte-preserved : goal.loop-byte-preserved
loop-byte-preserved c =
    let known = c.loop-byte.invariant in
    let value = c.in-Some.ensures.value in
    let pushed = digit_pushed c.args.text.now c.loop-byte.byte-index c.loop-byte.size c.in-Some.digit _
    (take_more c.args.text.now c.loop-byte.byte-index 0 (omega (arith, c.loop-byte-test.true))) known.digits known.size (sym c.in-Some.ensures.found) value.0 in
    record { digits = pushed.0; size = pushed.1; within = omega (arith, c.if-size-ge-ROOM.false, value.1) }
