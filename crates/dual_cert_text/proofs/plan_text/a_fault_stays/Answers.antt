use Rattle.dual_cert_text.proofs.Beginnings.{plan_fault_stays}
use Rattle.dual_cert_text.proofs.plan_text.a_fault_stays.Goals as goal

pub returns : goal.returns
returns c = λ front rest fault other is. plan_fault_stays front rest fault other is
