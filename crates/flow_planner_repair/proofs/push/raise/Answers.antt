use Rattle.std.proofs.Common.{◌≡◌, ◌+◌, ◌-◌, ◌<◌, min, inl, inr, sym, ◌∙◌, refl, arith}
use Rattle.std.proofs.lemmas.Bool.{cases_eq}
use Rattle.flow_planner_net.specs.Networks.{options, limit}
use Rattle.flow_planner_net.specs.States.{at}
use Rattle.flow_planner_net.proofs.Tables.{at-read, at-same, at-other}
use Rattle.flow_planner_repair.specs.Searches.{dist}
use Rattle.flow_planner_repair.specs.Pushes.{raised}
use Rattle.flow_planner_repair.proofs.Labels.{dist-is}
use Rattle.flow_planner_repair.proofs.PriceSteps.{raised-near, raised-away}
use Rattle.flow_planner_repair.proofs.push.raise.Goals as goal
use Rattle.flow_planner_repair.proofs.push.raise.Goals.{then-dist-reach, else-dist-reach}

pub overflow_add-prices : goal.overflow_add-prices
overflow_add-prices c =
    let network = c.args.network.now in
    let o = c.loop-option.option in
    let low = c.limit.ensures.lawful.low in
    let within : o < options network = omega (arith, c.options-option-end.ensures.exact) in
    omega (arith, low, at-read c.loop-option.prices o, c.loop-option.invariant.rest o (omega arith), c.requires.low o within, c.requires.reach)

pub loop-option-init : goal.loop-option-init
loop-option-init c = record { done = λ o below. absurd (omega arith); rest = λ o above. refl }

pub loop-option-preserved : goal.loop-option-preserved
loop-option-preserved c =
    let network = c.args.network.now in
    let here = c.loop-option in
    let i = here.option in
    let within : i < options network = omega (arith, c.options-option-end.ensures.exact) in
    let near = dist-is c.args.labels.now i in
    let read = at-read here.prices i in
    let was = here.invariant.rest i (omega arith) in
    elim c.if-dist-reach.branch [
      | then-dist-reach w ↦
          let value : min (limit network) (at c.args.prices.now i + (c.args.reach - dist c.args.labels.now i)) ≡ raised (limit network) c.args.reach (dist c.args.labels.now i) (at c.args.prices.now i) =
          sym (raised-near (limit network) c.args.reach (dist c.args.labels.now i) (at c.args.prices.now i) (omega (arith, w.if-dist-reach.true))) in
          let here_value : w.min.result ≡ raised (limit network) c.args.reach (dist c.args.labels.now i) (at c.args.prices.now i) =
          omega (arith, w.min.ensures, w.limit.ensures.exact, sym value) in
          rw w.prices-is (record {
            done = λ o below.
                elim (cases_eq o i) [
                  | inl same ↦ rw same (at-same here.prices i w.min.result (omega (arith, here.auto.prices, c.requires.prices)) ∙ here_value)
                  | inr other ↦ at-other here.prices i o w.min.result other ∙ here.invariant.done o (omega arith)
                ];
            rest = λ o above. at-other here.prices i o w.min.result (omega arith) ∙ here.invariant.rest o (omega arith);
          })
      | else-dist-reach w ↦
          let value : raised (limit network) c.args.reach (dist c.args.labels.now i) (at c.args.prices.now i) ≡ at c.args.prices.now i =
          raised-away (limit network) c.args.reach (dist c.args.labels.now i) (at c.args.prices.now i) (omega (arith, w.if-dist-reach.false)) in
          rw w.prices-is (record {
            done = λ o below.
                elim (cases_eq o i) [
                  | inl same ↦ rw same (was ∙ sym value)
                  | inr other ↦ here.invariant.done o (omega arith)
                ];
            rest = λ o above. here.invariant.rest o (omega arith);
          })
    ]

pub returns : goal.returns
returns c =
    let all = c.options-option-end.ensures.exact in
    record {
      len = c.loop-option.auto.prices;
      raised = λ o within. c.loop-option.invariant.done o (omega arith);
    }
