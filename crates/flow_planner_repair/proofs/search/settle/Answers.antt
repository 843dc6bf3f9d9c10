use Rattle.std.proofs.Common.{◌≡◌, ◌<◌, Some, None, Option, ℕ, sym, arith}
use Rattle.flow_planner_net.specs.Networks.{options}
use Rattle.flow_planner_net.specs.States.{at}
use Rattle.flow_planner_repair.specs.LeastArcs.{least_of}
use Rattle.flow_planner_repair.proofs.Following.{followed_start, followed_more, followed_past}
use Rattle.flow_planner_net.proofs.Tables.{place-lt}
use Rattle.flow_planner_repair.proofs.search.settle.Goals as goal
use Rattle.flow_planner_repair.proofs.search.settle.Goals.{in-Some, in_default}

pub loop-target-init : goal.loop-target-init
loop-target-init c =
    followed_start c.args.network.now (at c.args.prices.now) (least_of (options c.args.network.now) c.args.arcs.now.least c.args.here) c.args.here c.args.labels.now (options c.args.network.now)

pub least-requires : goal.least-requires
least-requires c =
    let network = c.args.network.now in
    let all = c.options-options.ensures.exact in
    rw all (omega (arith, c.requires.arcs.pairs, place-lt (options network) (options network) c.args.here c.loop-target.target c.requires.here (omega arith)))

pub relax-requires : goal.relax-requires
relax-requires c =
    let network = c.args.network.now in
    let all = c.options-options.ensures.exact in
    let target = c.loop-target.target in
    let within : target < options network = omega arith in
    let is : least_of (options network) c.args.arcs.now.least c.args.here target ≡ Some c.in-Some.via = rw (← all) (sym c.in-Some.ensures) in
    let up = c.requires.uphill target c.in-Some.via within is in
    record {
      source = c.requires.here;
      target = within;
      group = up.there;
      prices = c.requires.prices;
      low = c.requires.low;
      labels = omega (arith, c.loop-target.auto.labels, c.requires.labels);
      near = omega (arith, c.loop-target.invariant.near, c.requires.near);
      uphill = up.up;
    }

pub loop-target-preserved : goal.loop-target-preserved
loop-target-preserved c =
    let network = c.args.network.now in
    let all = c.options-options.ensures.exact in
    let price = at c.args.prices.now in
    let arc : ℕ → Option ℕ = least_of (options network) c.args.arcs.now.least c.args.here in
    let here = c.args.here in
    let old = c.args.labels.now in
    let loop = c.loop-target in
    elim c.match-least.branch [
      | in-Some w ↦
          let is : arc loop.target ≡ Some w.in-Some.via = rw (← all) (sym w.in-Some.ensures) in
          let made = w.relax.ensures in
          rw w.labels-is
          (followed_more network price arc here old loop.labels w.relax.new.labels (options network) loop.target w.in-Some.via is made.len made.others made.followed loop.invariant)
      | in_default w ↦
          let is : arc loop.target ≡ None = rw (← all) (sym w.in_default.ensures) in
          rw w.labels-is (followed_past network price arc here old loop.labels (options network) loop.target is loop.invariant)
    ]

pub returns : goal.returns
returns c =
    let all = c.options-options.ensures.exact in
    record {
      len = c.loop-target.auto.labels;
      followed = λ o within. c.loop-target.invariant.done o (omega arith);
    }
