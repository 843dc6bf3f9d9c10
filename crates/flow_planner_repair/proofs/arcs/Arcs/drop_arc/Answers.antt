use Rattle.std.proofs.Common.{◌*◌, ◌+◌, None, set, length, ap, subst, arith}
use Rattle.flow_planner_repair.specs.LeastArcs.{ArcsParts, IsDropped}
use Rattle.flow_planner_repair.proofs.ArcSteps.{dropped}
use Rattle.flow_planner_repair.proofs.arcs.Arcs.drop_arc.Goals as goal

pub returns-clause-dropped : goal.returns-clause-dropped
returns-clause-dropped c =
    let width = c.args.width in
    let items = c.self.inside.least.items in
    let as_many = ap (λ (arcs : ArcsParts). length arcs.least) c.self.view_is in
    subst (λ (arcs : ArcsParts). IsDropped width arcs.least (set items (c.args.source * width + c.args.target) None) c.args.source c.args.target) c.self.view_is
    (dropped width items c.args.source c.args.target c.requires.target (omega (arith, c.requires.within)))
