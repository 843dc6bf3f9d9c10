use Rattle.cert_check_law.proofs.Duality.{bound_holds}
use Rattle.cert_check_law.proofs.Views.{view_bound_holds}
use Rattle.cert_check_law.proofs.laws.weak_duality.Goals as goal

pub returns-clause-pins : goal.returns-clause-pins
returns-clause-pins c = bound_holds

pub returns-clause-views : goal.returns-clause-views
returns-clause-views c = view_bound_holds
