use Rattle.std.proofs.Common.{sym, ◌∙◌, arith}
use Rattle.std.proofs.lemmas.Bool.{eqb-true}
use Rattle.pin_moves.proofs.Handing.{IsFirst, first_of_all, first_behind}
use Rattle.pin_moves.proofs.handed.is_first_left.Goals as goal

pub returns-then-at-eq0-clause-pins : goal.returns-then-at-eq0-clause-pins
returns-then-at-eq0-clause-pins c = λ zero d.
    let left = c.args.left.now in
    let first = first_of_all left c.args.pins.now c.args.at c.index-left-at.result c.requires.ordered (eqb-true c.args.at 0 zero) (omega arith) c.index-left-at.is
    (sym c.is_passed.ensures ∙ c.if-is_passed.false) c.requires.some in
    first.same d

pub returns-then-at-eq0-clause-some : goal.returns-then-at-eq0-clause-some
returns-then-at-eq0-clause-some c = λ zero d.
    let left = c.args.left.now in
    let first = first_of_all left c.args.pins.now c.args.at c.index-left-at.result c.requires.ordered (eqb-true c.args.at 0 zero) (omega arith) c.index-left-at.is
    (sym c.is_passed.ensures ∙ c.if-is_passed.false) c.requires.some in
    first.some d

pub returns-else-at-eq0-clause-pins : goal.returns-else-at-eq0-clause-pins
returns-else-at-eq0-clause-pins c = λ past d.
    let first : IsFirst c.args.left.now c.args.pins.now c.args.at =
    first_behind c.args.left.now c.args.pins.now c.args.at c.index-left-at.result c.index-left-at-else-at-eq0.result c.requires.ordered (omega arith) (omega arith)
    c.index-left-at.is (sym c.is_passed.ensures ∙ c.if-is_passed.false) c.index-left-at-else-at-eq0.is
    (sym c.is_passed-else-at-eq0.ensures ∙ past) c.requires.some in
    first.same d

pub returns-else-at-eq0-clause-some : goal.returns-else-at-eq0-clause-some
returns-else-at-eq0-clause-some c = λ past d.
    let first : IsFirst c.args.left.now c.args.pins.now c.args.at =
    first_behind c.args.left.now c.args.pins.now c.args.at c.index-left-at.result c.index-left-at-else-at-eq0.result c.requires.ordered (omega arith) (omega arith)
    c.index-left-at.is (sym c.is_passed.ensures ∙ c.if-is_passed.false) c.index-left-at-else-at-eq0.is
    (sym c.is_passed-else-at-eq0.ensures ∙ past) c.requires.some in
    first.some d

pub returns-else-at-eq0-clause-first : goal.returns-else-at-eq0-clause-first
returns-else-at-eq0-clause-first c = λ past k d low same.
    let first : IsFirst c.args.left.now c.args.pins.now c.args.at =
    first_behind c.args.left.now c.args.pins.now c.args.at c.index-left-at.result c.index-left-at-else-at-eq0.result c.requires.ordered (omega arith) (omega arith)
    c.index-left-at.is (sym c.is_passed.ensures ∙ c.if-is_passed.false) c.index-left-at-else-at-eq0.is
    (sym c.is_passed-else-at-eq0.ensures ∙ past) c.requires.some in
    first.first k d low same
