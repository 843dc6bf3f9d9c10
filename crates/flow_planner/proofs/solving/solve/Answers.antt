use Rattle.std.proofs.Common.{◌≡◌, ◌*◌, sym, ap, subst, arith}
use Rattle.flow_planner_net.specs.Networks.{options, size}
use Rattle.flow_planner_net.specs.States.{used_of, at}
use Rattle.flow_planner_repair.specs.LeastArcs.{ArcsParts, AreArcs, AreKept}
use Rattle.flow_planner_repair.specs.Repairs.{excess}
use Rattle.flow_planner_repair.proofs.ArcSteps.{no_arcs-len, no_arcs-kept}
use Rattle.flow_planner_repair.proofs.RelieveSteps.{excess-le}
use Rattle.flow_planner.proofs.BlankSteps.{blank-used, blank-at, blank-len, state-free, excess-pins, looks-fit}
use Rattle.flow_planner.proofs.solving.solve.Goals as goal

pub start-requires : goal.start-requires
start-requires c =
    let network = c.args.network.now in
    let blank = c.requires.blank in
    record {
      groups = c.requires.groups;
      roomy = record {
        lawful = blank.lawful;
        table = blank-len (options network * size network) c.args.counts.now blank.unplaced;
        loads_len = blank-len (options network) c.args.loads.now blank.idle;
      };
      empty = λ o g inside within. blank-used (options network * size network) (size network) c.args.counts.now blank.unplaced o g;
      idle = λ o inside. blank-at (options network) c.args.loads.now blank.idle o;
    }

pub repair-requires : goal.repair-requires
repair-requires c =
    let network = c.args.network.now in
    let blank = c.requires.blank in
    let placed = c.start.ensures in
    let used = used_of (size network) c.start.new.counts in
    let free = blank-at (options network) c.args.prices.now blank.unpriced in
    let state = state-free network used (at c.args.prices.now) (at c.start.new.loads) free placed.state in
    let looks : c.args.arcs.now.looks ≡ 0 = ap (λ (arcs : ArcsParts). arcs.looks) blank.unknown in
    record {
      laid = record {
        lawful = blank.lawful;
        table = placed.roomy.table;
        prices_len = blank-len (options network) c.args.prices.now blank.unpriced;
        loads_len = placed.roomy.loads_len;
        labels_len = blank.labels_len;
        arcs_len = subst (AreArcs network) (sym blank.unknown) (no_arcs-len network);
        kept = subst (λ (arcs : ArcsParts). AreKept network used arcs) (sym blank.unknown) (no_arcs-kept network used);
      };
      state = state;
      few = omega (
        arith,
        looks,
        looks-fit network blank.lawful (excess network (at c.start.new.loads))
            (excess-le network blank.lawful used (at c.args.prices.now) (at c.start.new.loads) state),
      );
    }

pub returns : goal.returns
returns c =
    let network = c.args.network.now in
    let blank = c.requires.blank in
    let used = used_of (size network) c.start.new.counts in
    let looks : c.args.arcs.now.looks ≡ 0 = ap (λ (arcs : ArcsParts). arcs.looks) blank.unknown in
    let made = c.repair.ensures in
    record {
      state = made.state;
      within = made.within;
      table = made.laid.table;
      prices_len = made.laid.prices_len;
      pushes = omega (arith, made.pushes, excess-pins network used (λ option. 0) (at c.start.new.loads) c.start.ensures.state);
      looks = omega (arith, made.looks, looks);
    }
