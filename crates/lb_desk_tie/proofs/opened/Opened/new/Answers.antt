use Rattle.lb_desk_tie.proofs.Moves.{opens}
use Rattle.lb_desk_tie.proofs.opened.Opened.new.Goals as goal

pub of_words-requires : goal.of_words-requires
of_words-requires g c = opens
