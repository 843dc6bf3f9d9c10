use Rattle.std.proofs.Common.{sym, subst, ◌∙◌}
use Rattle.lb_acl.specs.Keys.{IsKeyFrom}
use Rattle.set_cookie.specs.Lines.{lines_of}
use Rattle.set_cookie.specs.Scans.{head_of, text_by}
use Rattle.set_cookie.specs.TaughtKeys.{IsTaught}
use Rattle.set_cookie.proofs.Keys.{goes_on, teaches_key, teaches_no_key, teaches_nothing_more}
use Rattle.set_cookie.proofs.key.taught_key.Goals as goal
use Rattle.set_cookie.proofs.key.taught_key.Goals.{then-may_go_on, else-may_go_on}

pub returns-in_default : goal.returns-in_default
returns-in_default c =
    let pattern = c.args.pattern.now in
    let answer = c.args.answer.now in
    let none = c.in_default.ensures.none in
    record {
      exact = elim c.if-may_go_on.branch [
        | then-may_go_on w ↦ subst (λ found. IsTaught pattern answer found) (sym w.result-is)
            (goes_on answer (sym c.may_go_on.ensures ∙ w.if-may_go_on.true) none)
        | else-may_go_on w ↦ subst (λ found. IsTaught pattern answer found) (sym w.result-is)
            (teaches_nothing_more pattern answer none (sym c.may_go_on.ensures ∙ w.if-may_go_on.false))
      ];
    }

pub returns-in-Some-2 : goal.returns-in-Some-2
returns-in-Some-2 c =
    let pattern = c.args.pattern.now in
    let text = text_by pattern.sample (head_of (lines_of c.in-Some.head.now)) in
    let from = subst (λ key. IsKeyFrom pattern.table text key) c.in-Some-2.is c.in_ok-key.ensures in
    record { exact = teaches_key pattern c.args.answer.now _ c.in-Some-2.key c.in-Some.ensures.some from }

pub returns-in-None : goal.returns-in-None
returns-in-None c =
    let pattern = c.args.pattern.now in
    let text = text_by pattern.sample (head_of (lines_of c.in-Some.head.now)) in
    let from = subst (λ key. IsKeyFrom pattern.table text key) c.in-None.is c.in_ok-key.ensures in
    record { exact = teaches_no_key pattern c.args.answer.now _ c.in-Some.ensures.some from }
