use Rattle.std.proofs.Common.{◌≡◌, true, false, eqb, arith}
use Rattle.std.proofs.lemmas.Bool.Decides.{nat_tests}
use Rattle.dual_cert_write.proofs.Sends.{Sends-then, Sends-twice}
use Rattle.lb_answers.specs.Scores.{score_text}
use Rattle.lb_answers.proofs.scores.send_score.Goals as goal

pub returns-then-score : goal.returns-then-score
unfolding score_text
returns-then-score g c =
    let same : eqb c.args.score.cost c.args.score.moved ≡ true = grind (arith, nat_tests) in
    rw same (Sends-twice _ _ _ _ _ _ _ _ _ _ _ c.send_labelled-sent.ensures c.send_labelled-sent-2.ensures c.send_labelled-sent-3.ensures)

pub returns : goal.returns
unfolding score_text
returns g c =
    let other : eqb c.args.score.cost c.args.score.moved ≡ false = grind (arith, nat_tests) in
    let words = Sends-twice _ _ _ _ _ _ _ _ _ _ _ c.send_labelled-sent.ensures c.send_labelled-sent-2.ensures c.send_labelled-sent-3.ensures in
    rw other (Sends-then _ _ _ _ _ _ _ _ words c.send_labelled.ensures)
