use Rattle.lb_desk_seen.proofs.Counted.{worn_is_exact, counts_are_few, steps_fit, histories_fit}
use Rattle.lb_desk_seen.proofs.counts.counts_fit.Goals as goal

pub returns-clause-worn : goal.returns-clause-worn
returns-clause-worn c = worn_is_exact

pub returns-clause-few : goal.returns-clause-few
returns-clause-few c = counts_are_few

pub returns-clause-steps : goal.returns-clause-steps
returns-clause-steps c = steps_fit

pub returns-clause-histories : goal.returns-clause-histories
returns-clause-histories c = histories_fit
