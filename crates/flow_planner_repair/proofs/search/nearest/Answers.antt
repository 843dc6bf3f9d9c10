use Rattle.std.proofs.Common.{◌≡◌, ◌<◌, inl, inr, ap, arith}
use Rattle.std.proofs.lemmas.Bool.{cases_eq}
use Rattle.flow_planner_net.specs.Networks.{options}
use Rattle.flow_planner_repair.specs.Searches.{dist, rank}
use Rattle.flow_planner_repair.proofs.search.nearest.Goals as goal
use Rattle.flow_planner_repair.proofs.search.nearest.Goals.{then-is_nearer, else-is_nearer}

pub loop-option-init : goal.loop-option-init
loop-option-init c =
    let some = c.options-option-end.ensures.lawful.some in
    record {
      there = omega arith;
      open_yet = c.requires.first;
      least = λ k below open_k. let first : k ≡ 0 = omega arith in rw first (omega arith);
    }

pub loop-option-preserved : goal.loop-option-preserved
loop-option-preserved c =
    let here = c.loop-option in
    let labels = c.args.labels.now in
    let within : here.option < options c.args.network.now = omega (arith, c.options-option-end.ensures.exact) in
    elim c.if-is_nearer.branch [
      | then-is_nearer w ↦
          let nearer = c.is_nearer.ensures.nearer w.if-is_nearer.true in
          rw w.best-is (record {
            there = within;
            open_yet = c.is_nearer.ensures.open_yet w.if-is_nearer.true;
            least = λ k below open_k.
                elim (cases_eq k here.option) [
                  | inl same ↦ omega (arith, ap (dist labels) same)
                  | inr other ↦ omega (arith, here.invariant.least k (omega arith) open_k)
                ];
          })
      | else-is_nearer w ↦
          rw w.best-is (record {
            there = here.invariant.there;
            open_yet = here.invariant.open_yet;
            least = λ k below open_k.
                elim (cases_eq k here.option) [
                  | inl same ↦ omega (arith, ap (dist labels) same, ap (rank labels) same, c.is_nearer.ensures.farther w.if-is_nearer.false)
                  | inr other ↦ here.invariant.least k (omega arith) open_k
                ];
          })
    ]

pub returns : goal.returns
returns c =
    let here = c.loop-option in
    let all = c.options-option-end.ensures.exact in
    record {
      there = here.invariant.there;
      open_yet = here.invariant.open_yet;
      least = λ k below open_k. here.invariant.least k (omega arith) open_k;
    }
