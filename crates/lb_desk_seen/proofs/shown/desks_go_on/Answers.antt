use Rattle.lb_desk_seen.proofs.Reaching.{opening_is_shown, steps_are_shown, shown_views_are_lawful}
use Rattle.lb_desk_seen.proofs.shown.desks_go_on.Goals as goal

pub returns-clause-opening : goal.returns-clause-opening
returns-clause-opening c = opening_is_shown

pub returns-clause-steps : goal.returns-clause-steps
returns-clause-steps c = steps_are_shown

pub returns-clause-lawful : goal.returns-clause-lawful
returns-clause-lawful c = shown_views_are_lawful
