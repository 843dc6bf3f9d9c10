use Rattle.lb_desk_law.proofs.Parts.{parts_are_histories}
use Rattle.lb_desk_law.proofs.laws.parts_of_a_history.Goals as goal

pub returns : goal.returns
returns c = parts_are_histories
