use Rattle.lb_desk_model.specs.States.{opening}
use Rattle.lb_desk_law.proofs.Apart.{history-apart}
use Rattle.lb_desk_law.proofs.Installs.{outcome, outcome-moved, outcome-best, stale-exactly, stale-once-changed, bad-exactly}
use Rattle.lb_desk_law.proofs.laws.installs_are_stale_or_best.Goals as goal

pub returns-clause-stale : goal.returns-clause-stale
returns-clause-stale c = λ backend entries old plan reply new history step. stale-exactly old plan reply new step

pub returns-clause-changed : goal.returns-clause-changed
returns-clause-changed c = λ backend early late point old plan reply new history since step.
    stale-once-changed point late old plan reply new since step

pub returns-clause-kept : goal.returns-clause-kept
returns-clause-kept c = λ backend entries old plan reply new history step score e.
    outcome-moved old plan score new (history-apart (opening backend) entries old tt history) (outcome old plan reply score new step e)

pub returns-clause-lawful : goal.returns-clause-lawful
returns-clause-lawful c = λ backend entries old plan reply new history step score e.
    (outcome-best old plan score new (outcome old plan reply score new step e)).0.lawful

pub returns-clause-best : goal.returns-clause-best
returns-clause-best c = λ backend entries old plan reply new history step score e.
    outcome-best old plan score new (outcome old plan reply score new step e)

pub returns-clause-bad : goal.returns-clause-bad
returns-clause-bad c = λ backend entries old plan reply new history step. bad-exactly old plan reply new step
