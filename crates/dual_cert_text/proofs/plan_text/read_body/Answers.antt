use Rattle.std.proofs.Common.{arith, sym, ap, ◌∙◌, length, length-append}
use Rattle.std.proofs.lemmas.Result.{err_from_is_err_and}
use Rattle.dual_cert_text.proofs.Bodies.{body_end, body_more, body_none, Fails-bind}
use Rattle.dual_cert_text.specs.PlanTexts.{plan_format}
use Rattle.dual_cert_text.proofs.plan_text.read_body.Goals as goal

pub returns-then-is : goal.returns-then-is
returns-then-is c =
    let here = body_end plan_format c.loop-line.number c.loop-line.draft c.loop-line.rest.now c.in-Some.line.now c.in-Some.behind.now c.in-Some.ensures.found (sym c.if-is.ensures) in
    rw (← (here ∙ c.loop-line.invariant.0)) c.end.ensures

pub returns-in_err-add_line : goal.returns-in_err-add_line
unfolding plan_format
returns-in_err-add_line c =
    let here = body_more plan_format c.loop-line.number c.loop-line.draft c.loop-line.rest.now c.in-Some.line.now c.in-Some.behind.now c.in-Some.ensures.found (sym c.if-is.ensures) in
    let p = err_from_is_err_and c.from_residual.result c.from_residual.ensures.1 in
    rw (p.1, p.2, ← (here ∙ c.loop-line.invariant.0)) (Fails-bind _ _ _ c.in_err-add_line.ensures)

pub loop-line-preserved : goal.loop-line-preserved
unfolding plan_format
loop-line-preserved c =
    let here = body_more plan_format c.loop-line.number c.loop-line.draft c.loop-line.rest.now c.in-Some.line.now c.in-Some.behind.now c.in-Some.ensures.found (sym c.if-is.ensures) in
    let now = rw c.in_ok-add_line.ensures at here in
    (now ∙ c.loop-line.invariant.0, omega (arith, simp length-append at (ap length c.in-Some.ensures.whole)))

pub returns : goal.returns
returns c =
    sym c.loop-line.invariant.0 ∙ body_none plan_format c.loop-line.number c.loop-line.draft c.loop-line.rest.now c.in_default.ensures.none
