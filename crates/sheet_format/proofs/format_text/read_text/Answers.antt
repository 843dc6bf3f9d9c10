use Rattle.std.proofs.Common.{arith, sym, ap, ◌∙◌, length, length-append}
use Rattle.std.proofs.lemmas.Result.{err_from_is_err_and}
use Rattle.dual_cert_text.proofs.Bodies.{Fails-bind}
use Rattle.sheet_format.proofs.Lines.{line_more, line_last}
use Rattle.sheet_format.proofs.format_text.read_text.Goals as goal

pub returns-in_err-add_line : goal.returns-in_err-add_line
returns-in_err-add_line c =
    let here = line_more c.loop-line.number c.loop-line.reading c.loop-line.rest.now c.in-Some.line.now c.in-Some.behind.now c.in-Some.ensures.found in
    let p = err_from_is_err_and c.from_residual.result c.from_residual.ensures.1 in
    rw (p.1, p.2, ← (here ∙ c.loop-line.invariant.0)) (Fails-bind _ _ _ c.in_err-add_line.ensures)

pub loop-line-preserved : goal.loop-line-preserved
loop-line-preserved c =
    let here = line_more c.loop-line.number c.loop-line.reading c.loop-line.rest.now c.in-Some.line.now c.in-Some.behind.now c.in-Some.ensures.found in
    let now = rw c.in_ok-add_line.ensures at here in
    (now ∙ c.loop-line.invariant.0, omega (arith, simp length-append at (ap length c.in-Some.ensures.whole)))

pub returns-in_err-add_line-2 : goal.returns-in_err-add_line-2
returns-in_err-add_line-2 c =
    let here = line_last c.loop-line.number c.loop-line.reading c.loop-line.rest.now c.in_default.ensures.none in
    let p = err_from_is_err_and c.from_residual-in_err-add_line-2.result c.from_residual-in_err-add_line-2.ensures.1 in
    rw (p.1, p.2, ← (here ∙ c.loop-line.invariant.0)) c.in_err-add_line-2.ensures

pub returns : goal.returns
returns c =
    let here = line_last c.loop-line.number c.loop-line.reading c.loop-line.rest.now c.in_default.ensures.none in
    sym c.loop-line.invariant.0 ∙ (sym here ∙ c.in_ok-add_line-2.ensures)
