use Rattle.std.proofs.Common.{◌≡◌, ◌++◌, drop, sym, subst, ap, ◌∙◌}
use Rattle.std.proofs.lemmas.List.{take-append-drop}
use Rattle.http_relay_talk.proofs.Lessons.{Looks, looks_last, teaches_none}
use Rattle.http_relay_talk.proofs.learning.Front.go_on.Goals as goal

pub returns-in-Err : goal.returns-in-Err
returns-in-Err g c = teaches_none c.args.self c.args.piece.now (g.P.Port.entries c.args.port.now) (g.P.Port.refusals c.args.port.now)

pub returns : goal.returns
returns g c =
    let self = c.args.self in
    let piece = c.args.piece.now in
    let first = c.split_at.result.0.now in
    let rest = c.split_at.result.1.now in
    let is : piece ≡ first ++ rest = sym (take-append-drop c.min.result piece) ∙ ap (λ xs. xs ++ drop c.min.result piece) (sym c.split_at.ensures.front)
    ∙ ap (λ xs. first ++ xs) (sym c.split_at.ensures.back) in
    let old = g.P.Port.entries c.args.port.now in
    let new = g.P.Port.entries c.teach.new.port in
    let refusals = g.P.Port.refusals c.args.port.now in
    let refused = g.P.Port.refusals c.teach.new.port in
    looks_last self first rest piece old new refusals refused c.teach.result is
    (subst (λ text. Looks self.lesson self.server text old new refusals refused c.teach.result)
    (c.deref.ensures.value ∙ c.in-Ok.ensures.items) c.teach.ensures)
