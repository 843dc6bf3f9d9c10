use Rattle.lb_desk_law.proofs.Lawful.{views_are_lawful}
use Rattle.lb_desk_law.proofs.laws.views_are_lawful.Goals as goal

pub returns : goal.returns
returns c = views_are_lawful
