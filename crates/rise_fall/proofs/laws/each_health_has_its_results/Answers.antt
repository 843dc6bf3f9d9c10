use Rattle.rise_fall.proofs.Steps.{StandsFor-some}
use Rattle.rise_fall.proofs.laws.each_health_has_its_results.Goals as goal

pub returns : goal.returns
returns c = StandsFor-some
