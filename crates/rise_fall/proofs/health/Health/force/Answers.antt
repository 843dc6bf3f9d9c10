use Rattle.rise_fall.proofs.Steps.{StandsFor-forced}
use Rattle.rise_fall.proofs.health.Health.force.Goals as goal

pub returns : goal.returns
returns c =
    let inside = c.self.inside in
    rw (← c.self.view_is) (StandsFor-forced inside.rise inside.fall c.args.up c.self.invariant.rise_from c.self.invariant.fall_from)
