use Rattle.std.proofs.Common.{arith, sym, ap, ◌∙◌, length, length-append}
use Rattle.std.proofs.lemmas.Result.{err_from_is_err_and}
use Rattle.dual_cert_text.proofs.Bodies.{Fails-bind}
use Rattle.pin_file.proofs.Bodies.{lines_end, lines_more, lines_none}
use Rattle.pin_file.proofs.pin_file_text.read_lines.Goals as goal

pub returns-then-is : goal.returns-then-is
returns-then-is c =
    let here = lines_end c.loop-line.number c.loop-line.draft c.loop-line.rest.now c.in-Some.line.now c.in-Some.behind.now c.in-Some.ensures.found (sym c.if-is.ensures) in
    rw (← (here ∙ c.loop-line.invariant.0)) c.end.ensures

pub returns-in_err-add_line : goal.returns-in_err-add_line
returns-in_err-add_line c =
    let here = lines_more c.loop-line.number c.loop-line.draft c.loop-line.rest.now c.in-Some.line.now c.in-Some.behind.now c.in-Some.ensures.found (sym c.if-is.ensures) in
    let p = err_from_is_err_and c.from_residual.result c.from_residual.ensures.1 in
    rw (p.1, p.2, ← (here ∙ c.loop-line.invariant.0)) (Fails-bind _ _ _ c.in_err-add_line.ensures)

pub loop-line-preserved : goal.loop-line-preserved
loop-line-preserved c =
    let here = lines_more c.loop-line.number c.loop-line.draft c.loop-line.rest.now c.in-Some.line.now c.in-Some.behind.now c.in-Some.ensures.found (sym c.if-is.ensures) in
    let now = rw c.in_ok-add_line.ensures at here in
    (now ∙ c.loop-line.invariant.0, omega (arith, simp length-append at (ap length c.in-Some.ensures.whole)))

pub returns : goal.returns
returns c =
    sym c.loop-line.invariant.0 ∙ lines_none c.loop-line.number c.loop-line.draft c.loop-line.rest.now c.in_default.ensures.none
