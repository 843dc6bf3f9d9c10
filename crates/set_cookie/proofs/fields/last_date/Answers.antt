use Rattle.std.proofs.Common.{sym, ◌∙◌}
use Rattle.set_cookie.specs.Lines.{lines_of}
use Rattle.set_cookie.proofs.Rows.{date_at_end}
use Rattle.set_cookie.proofs.fields.last_date.Goals as goal

pub returns-then-is_empty : goal.returns-then-is_empty
returns-then-is_empty c =
    let empty = sym c.is_empty.ensures ∙ c.if-is_empty.true in
    sym (date_at_end c.loop-line.found (lines_of c.loop-line.rest.now) c.in-Some.line.now _ c.in-Some.ensures.first empty) ∙ c.loop-line.invariant
