use Rattle.std.proofs.Common.{◌≡◌, ◌&&◌, false, eqb, ltb, get_or, sym, ap, ◌∙◌}
use Rattle.std.proofs.lemmas.Bool.{lt-ltb, le-ltb, and_left}
use Rattle.set_cookie.proofs.Names.{field_line}
use Rattle.set_cookie.proofs.fields.is_field_line.Goals as goal

pub returns-then-end-gt0 : goal.returns-then-end-gt0
returns-then-end-gt0 c =
    let whole = field_line c.args.line.now c.in-Some.end (sym c.name_end.ensures ∙ c.in-Some.is) in
    sym (whole ∙ ap (λ b. b && eqb (get_or c.args.line.now c.in-Some.end 0) 58) (lt-ltb 0 c.in-Some.end c.if-end-gt0.true))

pub returns-else-end-gt0 : goal.returns-else-end-gt0
returns-else-end-gt0 c =
    let whole = field_line c.args.line.now c.in-Some.end (sym c.name_end.ensures ∙ c.in-Some.is) in
    let empty : ltb 0 c.in-Some.end ≡ false = le-ltb 0 c.in-Some.end c.if-end-gt0.false in
    empty ∙ sym (whole ∙ and_left _ _ empty)
