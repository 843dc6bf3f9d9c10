use Rattle.rise_fall.proofs.Steps.{StandsFor-fresh}
use Rattle.rise_fall.proofs.health.Health.new.Goals as goal

pub returns : goal.returns
returns c = StandsFor-fresh c.args.rise c.args.fall c.requires.rise_from c.requires.fall_from
