use Rattle.lb_answers.proofs.Wrote.{Sends-wrote}
use Rattle.lb_answers.proofs.answer.send_plan.Goals as goal

pub returns-in-Some : goal.returns-in-Some
returns-in-Some g c =
    rw c.in-Some.is (record { whole = c.write_plan.ensures.whole; failed = c.write_plan.ensures.failed; front = c.write_plan.ensures.front })

pub returns-in-None : goal.returns-in-None
returns-in-None g c = rw c.in-None.is (Sends-wrote _ _ _ _ c.send.ensures)
