use Rattle.std.proofs.Common.{arith, ◌∙◌}
use Rattle.lb_types_text.proofs.Values.{too_large, digit_more, all_digits}
use Rattle.lb_types_text.proofs.numbers.value.Goals as goal

pub returns-in_err-number : goal.returns-in_err-number
returns-in_err-number c =
    c.from_residual.ensures ∙ too_large c.args.word.now c.loop-byte.byte-index c.loop-byte.number (omega arith) c.loop-byte.invariant (c.in_err-number.ensures)

pub loop-byte-preserved : goal.loop-byte-preserved
loop-byte-preserved c =
    digit_more c.args.word.now c.loop-byte.byte-index c.loop-byte.number _ (omega arith) c.loop-byte.invariant (c.in_ok-number.ensures)

pub returns : goal.returns
returns c =
    all_digits c.args.word.now c.loop-byte.byte-index c.loop-byte.number (omega arith) c.loop-byte.invariant
