use Rattle.cert_check_law.proofs.Duality.{best_at_bound}
use Rattle.cert_check_law.proofs.laws.best_at_bound.Goals as goal

pub returns : goal.returns
returns c = best_at_bound
