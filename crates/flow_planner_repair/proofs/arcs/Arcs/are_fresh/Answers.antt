use Rattle.std.proofs.Common.{◌≡◌, true, sym, subst, inl, inr, arith}
use Rattle.std.proofs.lemmas.Bool.{cases_eq}
use Rattle.flow_planner_net.proofs.Tables.{place-lt}
use Rattle.flow_planner_repair.specs.LeastArcs.{is_fresh}
use Rattle.flow_planner_repair.proofs.arcs.Arcs.are_fresh.Goals as goal

pub is_stale-requires : goal.is_stale-requires
is_stale-requires c =
    omega (arith, c.requires.marks, place-lt c.args.width c.args.width c.args.source c.loop-target.target c.requires.source (omega arith))

pub loop-target-preserved : goal.loop-target-preserved
loop-target-preserved c = λ k below.
    elim (cases_eq k c.loop-target.target) [
      | inl same ↦ subst (λ k. is_fresh c.args.width c.args.self.now.fresh c.args.source k ≡ true) (sym same) (c.is_stale.ensures.fresh c.if-is_stale.false)
      | inr other ↦ c.loop-target.invariant k (omega arith)
    ]
