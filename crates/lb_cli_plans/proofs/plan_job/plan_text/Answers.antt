use Rattle.std.proofs.Common.{◌≡◌, Ok, Some, ap, subst, ◌∙◌}
use Rattle.pin_set.specs.Rows.{rows_score}
use Rattle.dual_cert_text.specs.PlanTexts.{plan_of_text}
use Rattle.dual_cert_text.specs.Spellings.{spelling}
use Rattle.dual_cert_plan.specs.Plans.{PlanParts}
use Rattle.cert_check.proofs.Accepted.{accepted_best}
use Rattle.lb_cli_plans.proofs.Written.{whole_text}
use Rattle.lb_cli_plans.proofs.plan_job.plan_text.Goals as goal

pub returns-in-Ok : goal.returns-in-Ok
returns-in-Ok c =
    let plan : PlanParts = c.in_ok-planned.planned.plan in
    let same : c.plan-2.result.now ≡ plan = c.plan-2.ensures.exact in
    let text_is : c.into_inner.result.items ≡ spelling plan =
    whole_text _ _ _ _ (ap (λ w. w.contents) c.new-text.ensures ∙ ap Some c.new.ensures.items) c.in-Ok.ensures.whole c.into_inner.ensures
    ∙ ap spelling same in
    let reads : plan_of_text (spelling plan) ≡ Ok plan = subst (λ p. plan_of_text (spelling p) ≡ Ok p) same c.in-Ok.ensures.read_back in
    let known = c.in_ok-planned.ensures.accepted in
    record {
      plan = plan;
      spelled = text_is;
      read_back = ap plan_of_text text_is ∙ reads;
      version = c.in_ok-planned.ensures.version;
      score = rows_score plan.rows;
      accepted = known.accepted;
      best = accepted_best c.args.sheet.now plan (rows_score plan.rows) known.lawful known.accepted;
      accepted_alone = c.plan-2.ensures.accepted.accepted;
    }
