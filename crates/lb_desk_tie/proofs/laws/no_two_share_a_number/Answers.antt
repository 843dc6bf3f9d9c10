use Rattle.lb_desk_tie.proofs.Apart.{apart}
use Rattle.lb_desk_tie.proofs.laws.no_two_share_a_number.Goals as goal

pub returns : goal.returns
returns g c = λ history lists share. apart history lists share
