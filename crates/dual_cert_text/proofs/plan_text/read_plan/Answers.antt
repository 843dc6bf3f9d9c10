use Rattle.dual_cert_text.proofs.PlanLaws.{plan_is_spelled, plan_is_read}
use Rattle.dual_cert_text.proofs.plan_text.read_plan.Goals as goal

pub returns-clause-found : goal.returns-clause-found
returns-clause-found c = plan_is_spelled c.args.text.now c.read_whole.result c.read_whole.ensures

pub returns-clause-only : goal.returns-clause-only
returns-clause-only c = plan_is_read c.args.text.now c.read_whole.result c.read_whole.ensures
