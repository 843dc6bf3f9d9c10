use Rattle.std.proofs.Common.{inl, inr, ap, sym, ◌∙◌, arith, length-set}
use Rattle.std.proofs.lemmas.Bool.{cases_eq}
use Rattle.flow_planner_repair.specs.Searches.{dist, rank}
use Rattle.flow_planner_repair.proofs.Labels.{label-same, label-other, rank-is}
use Rattle.flow_planner_repair.proofs.search.begin.Goals as goal

pub loop-label-preserved : goal.loop-label-preserved
loop-label-preserved c =
    let here = c.loop-label in
    let i = here.label-index in
    let now = label-same here.labels i _ (omega arith) in
    record {
      far = λ o below.
          elim (cases_eq o i) [
            | inl same ↦ ap (dist _) same ∙ now.is_dist
            | inr other ↦ (label-other here.labels i o _ other).same_dist ∙ here.invariant.far o (omega arith)
          ];
      rank = λ o below.
          elim (cases_eq o i) [
            | inl same ↦ ap (rank _) same ∙ now.is_rank
            | inr other ↦ (label-other here.labels i o _ other).same_rank ∙ here.invariant.rank o (omega arith)
          ];
    }

pub returns : goal.returns
returns c =
    let here = c.loop-label in
    let start = c.args.start in
    let now = label-same here.labels start _ (omega arith) in
    record {
      len = length-set here.labels start _ ∙ here.auto.labels;
      start = now.is_dist;
      far = λ o within ne. (label-other here.labels start o _ ne).same_dist ∙ here.invariant.far o (omega arith);
      rank = λ o within.
          elim (cases_eq o start) [
            | inl same ↦ ap (rank _) same ∙ (now.is_rank ∙ (sym (rank-is here.labels start) ∙ here.invariant.rank start (omega arith)))
            | inr other ↦ (label-other here.labels start o _ other).same_rank ∙ here.invariant.rank o (omega arith)
          ];
    }
