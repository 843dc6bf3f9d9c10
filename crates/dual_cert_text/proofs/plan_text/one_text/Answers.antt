use Rattle.dual_cert_text.proofs.PlanLaws.{plan_alone}
use Rattle.dual_cert_text.proofs.plan_text.one_text.Goals as goal

pub returns : goal.returns
returns c = λ a b rest kept_a kept_b begins. plan_alone a b rest kept_a kept_b begins
