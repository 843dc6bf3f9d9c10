use Rattle.dual_cert_text.proofs.Beginnings.{plan_begun}
use Rattle.dual_cert_text.proofs.plan_text.a_beginning_is_truncated.Goals as goal

pub returns : goal.returns
returns c = λ plan front rest kept more begins. plan_begun plan front rest kept more begins
