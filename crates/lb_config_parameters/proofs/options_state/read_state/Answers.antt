use Rattle.std.proofs.Common.{sym, ◌∙◌}
use Rattle.std.proofs.lemmas.Result.{err_from_is_err_and}
use Rattle.lb_config_arguments.proofs.WordSteps.{each_word-end, each_word-taken, each_word_at_fault, each_word_at_refused}
use Rattle.lb_config_parameters.proofs.options_state.read_state.Goals as goal

pub returns-in_err-word : goal.returns-in_err-word
returns-in_err-word c =
    let p = err_from_is_err_and c.from_residual.result c.from_residual.ensures.1 in
    rw (p.1, p.2, ← c.loop-word.invariant) (each_word_at_fault _ _ _ _ c.in_err-word.ensures.exact)

pub returns-in_err-state : goal.returns-in_err-state
returns-in_err-state c =
    let p = err_from_is_err_and c.from_residual-in_err-state.result c.from_residual-in_err-state.ensures.1 in
    let next = rw c.in-Some.is at c.in_ok-word.ensures.exact in
    rw (p.1, p.2, ← c.loop-word.invariant) (each_word_at_refused _ _ _ _ _ _ next c.in_err-state.ensures)

pub loop-word-preserved : goal.loop-word-preserved
loop-word-preserved c =
    let next = rw c.in-Some.is at c.in_ok-word.ensures.exact in
    sym (each_word-taken _ _ _ _ _ _ next c.in_ok-state.ensures) ∙ c.loop-word.invariant

pub returns : goal.returns
returns c =
    let end = rw c.in_default.is at c.in_ok-word.ensures.exact in
    sym c.loop-word.invariant ∙ each_word-end _ _ _ _ end
