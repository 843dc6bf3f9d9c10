use Rattle.std.proofs.Common.{sym, ◌∙◌}
use Rattle.std.specs.Option.{option_copied}
use Rattle.set_cookie.specs.Lines.{lines_of}
use Rattle.set_cookie.proofs.Rows.{text_at_end, text_at_bad}
use Rattle.set_cookie.proofs.fields.last_text.Goals as goal

pub returns-then-is_empty : goal.returns-then-is_empty
returns-then-is_empty c =
    let empty = sym c.is_empty.ensures ∙ c.if-is_empty.true in
    sym (text_at_end c.args.name.now (option_copied c.loop-line.found) (lines_of c.loop-line.rest.now) c.in-Some.line.now _ c.in-Some.ensures.first empty) ∙ c.loop-line.invariant

pub returns-then-not-is_field_line : goal.returns-then-not-is_field_line
returns-then-not-is_field_line c =
    let full = sym c.is_empty.ensures ∙ c.if-is_empty.false in
    let bad = sym c.is_field_line.ensures ∙ c.if-not-is_field_line.true in
    sym (text_at_bad c.args.name.now (option_copied c.loop-line.found) (lines_of c.loop-line.rest.now) c.in-Some.line.now _ c.in-Some.ensures.first full bad) ∙ c.loop-line.invariant
