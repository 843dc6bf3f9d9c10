use Rattle.std.proofs.Common.{length, ap, ◌∙◌, arith}
use Rattle.flow_planner_net.specs.Networks.{size}
use Rattle.flow_planner_net.specs.States.{used_of}
use Rattle.flow_planner_repair.proofs.ForgetSteps.{forgotten_move}
use Rattle.flow_planner_repair.proofs.forget.forget_move.Goals as goal

pub forget_come-requires : goal.forget_come-requires
forget_come-requires c =
    let first = c.forget_left.ensures in
    record {
      option = c.requires.target;
      group = c.requires.group;
      arcs = record { pairs = ap length first.fewer.least ∙ c.requires.arcs.pairs; marks = first.fewer.marks ∙ c.requires.arcs.marks };
      table = c.requires.table;
      few = omega (arith, first.looks, c.requires.few);
    }

pub returns : goal.returns
returns c =
    let network = c.args.network.now in
    let first = c.forget_left.ensures in
    let second = c.forget_come.ensures in
    record {
      forgotten = λ old move.
          forgotten_move network old (used_of (size network) c.args.counts.now) c.args.source c.args.target c.args.via c.args.pins c.args.arcs.now c.forget_left.new.arcs c.forget_come.new.arcs
          move first.fewer second.fewer first.stale second.no_less;
      looks = omega (arith, first.looks, second.looks);
      looks_stay = omega (arith, first.looks, second.looks_stay);
    }
