use Rattle.std.proofs.Common.{◌≡◌, refl, Err, subst, sym}
use Rattle.std.specs.Prelude.{Result}
use Rattle.std.proofs.lemmas.Result.{on_ok_weaker}
use Rattle.dual_cert_plan.specs.Plans.{PlanParts}
use Rattle.dual_cert.specs.PlanTexts.{plan_of_text}
use Rattle.dual_cert.specs.TextFault.{TextFault}
use Rattle.lb_replay.specs.Answers.{AnswersText}
use Rattle.lb_replay.specs.Steps.{Does}
use Rattle.lb_replay.proofs.Outcomes.{does_also, only_text}
use Rattle.lb_replay.proofs.day.Day.install_text.Goals as goal

pub returns-in-Err-Fault : goal.returns-in-Err-Fault
returns-in-Err-Fault g c =
    let day = c.args.self.now in
    let old = c.args.out.now.contents in
    let new = c.print_text_fault.new.out.contents in
    let read : plan_of_text c.args.text.now ≡ Err c.in-Err-Fault.fault = rw (c.in-Err-Fault.field-0-is) at c.in-Err-Fault.ensures.exact in
    on_ok_weaker c.print_text_fault.result (λ went.
    subst (λ (r : Result PlanParts TextFault). Does (AnswersText c.args.farm.now day r) day old new) (sym read)
    (does_also day old new (λ o h. h) (only_text day day _ old new refl went))) c.print_text_fault.ensures
