use Rattle.lb_answers.proofs.answer.write_answer.Goals as goal

pub returns-clause-whole : goal.returns-clause-whole
returns-clause-whole g c = c.send_answer.ensures.whole

pub returns-clause-failed : goal.returns-clause-failed
returns-clause-failed g c = c.send_answer.ensures.failed

pub returns-clause-front : goal.returns-clause-front
returns-clause-front g c = c.send_answer.ensures.front
