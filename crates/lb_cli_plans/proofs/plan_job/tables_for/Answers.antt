use Rattle.std.proofs.Common.{◌≡◌, ◌∙◌, ap}
use Rattle.std.proofs.lemmas.Result.{IfOk-weaker}
use Rattle.pin_set.specs.Rows.{rows_score}
use Rattle.dual_cert_plan.specs.Plans.{PlanParts}
use Rattle.cert_check.proofs.Accepted.{accepted_best}
use Rattle.lb_cli_tables.specs.Tables.{tables_text}
use Rattle.lb_cli_plans.proofs.plan_job.tables_for.Goals as goal

pub returns : goal.returns
returns c =
    let plan : PlanParts = c.in_ok-best.best.plan in
    let same : c.plan-2.result.now ≡ plan = c.plan-2.ensures.exact in
    let known = c.in_ok-best.ensures.accepted in
    IfOk-weaker c.tables_text.result _ _ (λ text told. record {
      plan = plan;
      told = told ∙ ap tables_text same;
      version = c.in_ok-best.ensures.version;
      score = rows_score plan.rows;
      accepted = known.accepted;
      best = accepted_best c.args.sheet.now plan (rows_score plan.rows) known.lawful known.accepted;
    }) c.tables_text.ensures
