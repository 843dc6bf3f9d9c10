use Rattle.std.proofs.Common.{sym, ◌∙◌}
use Rattle.set_cookie.proofs.Lessons.{bad_teaches, deletion_teaches, empty_teaches, no_text_teaches, value_teaches}
use Rattle.set_cookie.proofs.answer.taught_by.Goals as goal

pub returns-in_err-status : goal.returns-in_err-status
returns-in_err-status c = rw c.from_residual.ensures (sym (empty_teaches c.args.name.now _ c.in_err-status.ensures.none))

pub returns-then-not-is_status_line : goal.returns-then-not-is_status_line
returns-then-not-is_status_line c =
    let bad = sym c.is_status_line.ensures ∙ c.if-not-is_status_line.true in
    sym (bad_teaches c.args.name.now _ _ _ c.in_ok-status.ensures.first bad)

pub returns-in_err-text : goal.returns-in_err-text
returns-in_err-text c =
    let good = sym c.is_status_line.ensures ∙ c.if-not-is_status_line.false in
    rw c.from_residual-in_err-text.ensures (sym (no_text_teaches c.args.name.now _ _ _ c.in_ok-status.ensures.first good (sym c.in_err-text.ensures)))

pub returns-then-is_deletion : goal.returns-then-is_deletion
returns-then-is_deletion c =
    let good = sym c.is_status_line.ensures ∙ c.if-not-is_status_line.false in
    let gone = sym c.is_deletion.ensures ∙ c.if-is_deletion.true in
    sym (deletion_teaches c.args.name.now _ c.in_ok-text.text.now _ _ c.in_ok-status.ensures.first good (sym c.in_ok-text.ensures) gone)

pub returns : goal.returns
returns c =
    let good = sym c.is_status_line.ensures ∙ c.if-not-is_status_line.false in
    let kept = sym c.is_deletion.ensures ∙ c.if-is_deletion.false in
    let value = value_teaches c.args.name.now _ c.in_ok-text.text.now _ _ c.in_ok-status.ensures.first good (sym c.in_ok-text.ensures) kept in
    cc
