use Rattle.std.proofs.Common.{◌≡◌, ℕ, List, [], ◌++◌, None, take, arith, ap, sym, ◌∙◌, subst}
use Rattle.std.proofs.lemmas.List.{with_items_is}
use Rattle.std.specs.Vec.{with_items}
use Rattle.check_workers_probe.specs.Probes.{Course, Answers}
use Rattle.check_workers_probe.proofs.Courses.{course, reads, answers_of}
use Rattle.check_workers_probe.proofs.probing.Probing.hear.Goals as goal

pub returns-clause-goes_on : goal.returns-clause-goes_on
returns-clause-goes_on g c =
    let p = c.self.inside in
    let room = c.hear-filled.new.room in
    let filled = c.hear-filled.result.0 in
    let heard = rw c.deref_mut.ensures.value at c.hear-filled.ensures.heard in
    let back = with_items_is p.room room (omega (arith, c.hear-filled.auto.room, c.deref_mut.ensures.len, p.room.ok.0)) in
    let none = subst (λ (course : Course). course.unsent ≡ []) (sym c.self.view_is) c.requires.sent in
    rw (sym c.self.view_is)
    (reads p.rule.now (p.line.now ++ p.fields.now) (take p.filled p.room.items) heard.text (take filled (with_items p.room room).items)
    (g.W.Wire.written c.args.wire.now) (g.W.Wire.written c.hear-filled.new.wire) (g.W.Wire.reading c.args.wire.now) (g.W.Wire.reading c.hear-filled.new.wire)
    none c.hear-filled.ensures.written (ap (take filled) back ∙ heard.came_is) heard.read)

pub returns-clause-answers : goal.returns-clause-answers
returns-clause-answers g c =
    let p = c.self.inside in
    let room = c.hear-filled.new.room in
    let filled = c.hear-filled.result.0 in
    let reading = g.W.Wire.reading c.hear-filled.new.wire in
    let before = g.W.Wire.faults c.args.wire.now in
    let after = g.W.Wire.faults c.hear-filled.new.wire in
    let back = with_items_is p.room room (omega (arith, c.hear-filled.auto.room, c.deref_mut.ensures.len, p.room.ok.0)) in
    let none = subst (λ (course : Course). course.unsent ≡ []) (sym c.self.view_is) c.requires.sent in
    answers_of c.hear-filled.result.1 p.rule.now (p.line.now ++ p.fields.now) (take filled (with_items p.room room).items) reading before after none
    (subst (λ (xs : List ℕ). Answers c.hear-filled.result.1 (course None [] (take filled xs)) reading before after) (sym back) c.hear-filled.ensures.heard.answers)
