use Rattle.std.proofs.Common.{◌*◌, ◌+◌, set, length, ap, subst, arith}
use Rattle.flow_planner_repair.specs.LeastArcs.{ArcsParts, IsMarked}
use Rattle.flow_planner_repair.proofs.ArcSteps.{marked}
use Rattle.flow_planner_repair.proofs.arcs.Arcs.set_fresh.Goals as goal

pub returns-clause-set : goal.returns-clause-set
returns-clause-set c =
    let width = c.args.width in
    let items = c.self.inside.fresh.items in
    let as_many = ap (λ (arcs : ArcsParts). length arcs.fresh) c.self.view_is in
    subst (λ (arcs : ArcsParts). IsMarked width arcs.fresh (set items (c.args.source * width + c.args.target) c.args.is_right) c.args.source c.args.target c.args.is_right) c.self.view_is
    (marked width items c.args.source c.args.target c.args.is_right c.requires.target (omega (arith, c.requires.within)))
