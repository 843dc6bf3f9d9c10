use Rattle.std.proofs.Common.{◌≡◌, ◌+◌, ◌*◌, None, length, ap, subst, arith}
use Rattle.std.proofs.lemmas.List.{get_or_read}
use Rattle.flow_planner_repair.specs.LeastArcs.{ArcsParts, least_of}
use Rattle.flow_planner_repair.proofs.arcs.Arcs.least.Goals as goal

pub returns : goal.returns
unfolding least_of
returns c =
    let as_many = ap (λ (arcs : ArcsParts). length arcs.least) c.self.view_is in
    let there = get_or_read c.self.inside.least.items (c.args.source * c.args.width + c.args.target) c.index.result.now (omega arith) c.index.ensures None in
    subst (λ (arcs : ArcsParts). c.index.result.now ≡ least_of c.args.width arcs.least c.args.source c.args.target) c.self.view_is there
