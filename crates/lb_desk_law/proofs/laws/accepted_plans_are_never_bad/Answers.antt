use Rattle.lb_desk_law.proofs.Worlds.{accepted_are_never_bad}
use Rattle.lb_desk_law.proofs.laws.accepted_plans_are_never_bad.Goals as goal

pub returns : goal.returns
returns c = accepted_are_never_bad
