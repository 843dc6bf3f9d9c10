use Rattle.lb_desk_seen.proofs.Changed.{settings_are_seen, results_are_seen, servers_are_seen, connections_are_seen, views_are_seen, acts_are_counted}
use Rattle.lb_desk_seen.proofs.shown.changes_are_seen.Goals as goal

pub returns-clause-settings : goal.returns-clause-settings
returns-clause-settings c = settings_are_seen

pub returns-clause-results : goal.returns-clause-results
returns-clause-results c = results_are_seen

pub returns-clause-servers : goal.returns-clause-servers
returns-clause-servers c = servers_are_seen

pub returns-clause-connections : goal.returns-clause-connections
returns-clause-connections c = connections_are_seen

pub returns-clause-views : goal.returns-clause-views
returns-clause-views c = views_are_seen

pub returns-clause-counted : goal.returns-clause-counted
returns-clause-counted c = acts_are_counted
