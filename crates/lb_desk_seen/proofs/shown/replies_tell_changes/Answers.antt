use Rattle.lb_desk_seen.proofs.Replied.{replies_tell_views, replies_tell_versions}
use Rattle.lb_desk_seen.proofs.shown.replies_tell_changes.Goals as goal

pub returns-clause-views : goal.returns-clause-views
returns-clause-views c = replies_tell_views

pub returns-clause-versions : goal.returns-clause-versions
returns-clause-versions c = replies_tell_versions
