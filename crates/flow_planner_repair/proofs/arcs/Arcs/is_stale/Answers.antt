use Rattle.std.proofs.Common.{◌≡◌, length, ap, subst, ◌∙◌, arith}
use Rattle.std.proofs.lemmas.Bool.{not-true, not-false}
use Rattle.flow_planner_repair.specs.LeastArcs.{ArcsParts, is_fresh}
use Rattle.flow_planner_repair.proofs.ArcSteps.{fresh-read}
use Rattle.flow_planner_repair.proofs.arcs.Arcs.is_stale.Goals as goal

pub returns-clause-stale : goal.returns-clause-stale
returns-clause-stale c =
    let as_many = ap (λ (arcs : ArcsParts). length arcs.fresh) c.self.view_is in
    let read = fresh-read c.args.width c.self.inside.fresh.items c.args.source c.args.target c.index.result.now (omega (arith, c.requires)) c.index.ensures in
    let is = subst (λ (arcs : ArcsParts). is_fresh c.args.width arcs.fresh c.args.source c.args.target ≡ c.index.result.now) c.self.view_is read in
    λ no. is ∙ not-true c.index.result.now no

pub returns-clause-fresh : goal.returns-clause-fresh
returns-clause-fresh c =
    let as_many = ap (λ (arcs : ArcsParts). length arcs.fresh) c.self.view_is in
    let read = fresh-read c.args.width c.self.inside.fresh.items c.args.source c.args.target c.index.result.now (omega (arith, c.requires)) c.index.ensures in
    let is = subst (λ (arcs : ArcsParts). is_fresh c.args.width arcs.fresh c.args.source c.args.target ≡ c.index.result.now) c.self.view_is read in
    λ no. is ∙ not-false c.index.result.now no
