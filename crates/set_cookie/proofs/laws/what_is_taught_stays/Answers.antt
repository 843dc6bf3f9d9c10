use Rattle.set_cookie.proofs.Stays.{settled, stays_settled, teaches_nothing_yet}
use Rattle.set_cookie.proofs.laws.what_is_taught_stays.Goals as goal

pub returns-clause-stays : goal.returns-clause-stays
returns-clause-stays c = settled

pub returns-clause-finished : goal.returns-clause-finished
returns-clause-finished c = stays_settled

pub returns-clause-nothing_yet : goal.returns-clause-nothing_yet
returns-clause-nothing_yet c = teaches_nothing_yet
