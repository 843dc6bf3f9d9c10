use Rattle.std.proofs.Common.{◌≡◌, true, false, sym, ◌∙◌}
use Rattle.lb_answers.specs.Keys.{is_plain}
use Rattle.lb_answers.proofs.keys.send_escaped.Goals as goal

pub returns-then-is_plain : goal.returns-then-is_plain
returns-then-is_plain g c =
    let plain : is_plain c.args.byte ≡ true = sym c.is_plain.ensures ∙ c.if-is_plain.true in
    rw plain c.send.ensures

pub returns-else-is_plain : goal.returns-else-is_plain
returns-else-is_plain g c =
    let other : is_plain c.args.byte ≡ false = sym c.is_plain.ensures ∙ c.if-is_plain.false in
    let digits = rw (c.digit.ensures, c.digit-else-is_plain.ensures) at c.send-else-is_plain.ensures in
    rw other digits
