use Rattle.dual_cert_write.proofs.Sends.{WasSent-whole, WasSent-front, WasSent-failed}
use Rattle.dual_cert_write.proofs.plan_text.write_plan.Goals as goal

pub returns-clause-whole : goal.returns-clause-whole
returns-clause-whole g c = WasSent-whole _ _ _ _ c.send_plan.ensures.sent

pub returns-clause-front : goal.returns-clause-front
returns-clause-front g c = WasSent-front _ _ _ _ c.send_plan.ensures.sent

pub returns-clause-failed : goal.returns-clause-failed
returns-clause-failed g c = WasSent-failed _ _ _ _ c.send_plan.ensures.sent
