use Rattle.lb_desk_seen.proofs.Logged.{one_view_a_version, accepted_now, accepted_before}
use Rattle.lb_desk_seen.proofs.logs.accepted_plans_are_installed.Goals as goal

pub returns-clause-views : goal.returns-clause-views
returns-clause-views c = one_view_a_version

pub returns-clause-now : goal.returns-clause-now
returns-clause-now c = accepted_now

pub returns-clause-before : goal.returns-clause-before
returns-clause-before c = accepted_before
