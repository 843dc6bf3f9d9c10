use Rattle.rise_fall.proofs.Steps.{StandsFor-agreed, StandsFor-disagreed, StandsFor-turned, same-beq, other-beq}
use Rattle.rise_fall.proofs.health.Health.take.Goals as goal

pub returns-then-ok-self-clause-added : goal.returns-then-ok-self-clause-added
returns-then-ok-self-clause-added c rise fall base results stands =
    let inside = c.self.inside in
    let kept = c.self.invariant in
    rw (same-beq c.args.ok inside.up c.if-ok-self.true) (StandsFor-agreed inside.rise inside.fall inside.up inside.against rise fall base results kept.rise_from kept.fall_from (rw c.self.view_is stands))

pub returns-then-self-needed-clause-added : goal.returns-then-self-needed-clause-added
returns-then-self-needed-clause-added c rise fall base results stands =
    let inside = c.self.inside in
    let kept = c.self.invariant in
    rw (other-beq c.args.ok inside.up c.if-ok-self.false) (StandsFor-disagreed inside.rise inside.fall inside.up inside.against rise fall base results kept.rise_from kept.fall_from (rw (c.needed.ensures.exact, ← c.self.view_is) at c.if-self-needed.true) (rw c.self.view_is stands))

pub returns-clause-added : goal.returns-clause-added
returns-clause-added c rise fall base results stands =
    let inside = c.self.inside in
    let kept = c.self.invariant in
    rw (other-beq c.args.ok inside.up c.if-ok-self.false) (StandsFor-turned inside.rise inside.fall inside.up inside.against rise fall base results kept.rise_from kept.fall_from (rw (c.needed.ensures.exact, ← c.self.view_is) at c.if-self-needed.false) (rw c.self.view_is stands))
