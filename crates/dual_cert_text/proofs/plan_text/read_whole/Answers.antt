use Rattle.dual_cert_text.proofs.PlanLaws.{plan_found}
use Rattle.dual_cert_text.proofs.plan_text.read_whole.Goals as goal

pub into_plan-requires : goal.into_plan-requires
into_plan-requires c = (plan_found c.args.text.now c.in_ok-draft.draft c.in_ok-draft.ensures).0
