use Rattle.std.proofs.Common.{arith, sym, ◌∙◌}
use Rattle.std.proofs.lemmas.Result.{err_from_is_err_and}
use Rattle.lb_config_sections.proofs.LineSteps.{line_at, lines_end, Fails-bind}
use Rattle.lb_config_sections.proofs.sections.read_draft.Goals as goal

pub returns-in_err-take_line : goal.returns-in_err-take_line
returns-in_err-take_line c =
    let here = line_at c.loop-line.draft c.args.lines.now c.loop-line.line-index c.line-item.result (omega arith) c.line-item.is in
    let p = err_from_is_err_and c.from_residual.result c.from_residual.ensures.1 in
    rw (p.1, p.2, ← (sym here ∙ c.loop-line.invariant)) (Fails-bind _ _ _ c.in_err-take_line.ensures)

pub loop-line-preserved : goal.loop-line-preserved
loop-line-preserved c =
    let here = line_at c.loop-line.draft c.args.lines.now c.loop-line.line-index c.line-item.result (omega arith) c.line-item.is in
    let now = rw c.in_ok-take_line.ensures at here in
    sym now ∙ c.loop-line.invariant

pub returns : goal.returns
returns c =
    sym c.loop-line.invariant ∙ lines_end c.loop-line.draft c.args.lines.now c.loop-line.line-index (omega arith)
