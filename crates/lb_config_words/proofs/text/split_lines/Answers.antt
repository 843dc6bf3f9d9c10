use Rattle.std.proofs.Common.{◌≡◌, ◌+◌, length, ap, sym, ◌∙◌, arith, length-append, rules}
use Rattle.lb_types_text.specs.Parts.{parts}
use Rattle.lb_config_words.proofs.LineSteps.{line_more, line_last}
use Rattle.lb_config_words.proofs.text.split_lines.Goals as goal

pub loop-line-preserved : goal.loop-line-preserved
loop-line-preserved c =
    let read = line_more c.loop-line.lines.items c.loop-line.number c.in-Some.line.now (parts 10 c.in-Some.behind.now) c.in-Some.ensures.more in
    let shorter : length c.loop-line.rest.now ≡ length c.in-Some.line.now + (length c.in-Some.behind.now + 1) = omega (arith, simp length-append at (ap length c.in-Some.ensures.whole)) in
    (rw (c.in_ok-push_line.ensures, c.without_return.ensures) (sym read) ∙ (rw c.in-Some.ensures.found at c.loop-line.invariant.0), omega (arith, shorter, c.loop-line.invariant.1))

pub returns : goal.returns
returns c =
    let read = line_last c.loop-line.lines.items c.loop-line.number c.loop-line.rest.now in
    search rules
