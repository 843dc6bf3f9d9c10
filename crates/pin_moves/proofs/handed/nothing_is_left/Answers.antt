use Rattle.pin_moves.proofs.Handing.{nothing_left}
use Rattle.pin_moves.proofs.handed.nothing_is_left.Goals as goal

pub returns : goal.returns
returns c = nothing_left
