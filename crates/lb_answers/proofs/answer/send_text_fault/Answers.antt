use Rattle.lb_answers.proofs.answer.send_text_fault.Goals as goal

pub returns-in-TooLarge : goal.returns-in-TooLarge
returns-in-TooLarge g c = rw c.in-TooLarge.is c.send.ensures

pub returns-in-NotCanonical : goal.returns-in-NotCanonical
returns-in-NotCanonical g c = rw c.in-NotCanonical.is c.send-in-NotCanonical.ensures

pub returns-in-Truncated : goal.returns-in-Truncated
returns-in-Truncated g c = rw c.in-Truncated.is c.send-in-Truncated.ensures
