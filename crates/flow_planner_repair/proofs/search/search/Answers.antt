use Rattle.std.proofs.Common.{◌+◌, ◌*◌, ◌<◌, ◌≤◌, ◌∙◌, arith}
use Rattle.std.proofs.Math.Nat.{mul-le-mul_right}
use Rattle.flow_planner_net.specs.Networks.{options, size}
use Rattle.flow_planner_net.specs.States.{used_of, at}
use Rattle.flow_planner_net.proofs.Tables.{at-read}
use Rattle.flow_planner_repair.proofs.Labels.{with_rank, ranked-set, ranked-length}
use Rattle.flow_planner_repair.proofs.SearchSteps.{settled-lt}
use Rattle.flow_planner_repair.proofs.StateSteps.{first_open, nearest_near, least_uphill, search_start, search_more}
use Rattle.flow_planner_repair.proofs.search.search.Goals as goal

pub nearest-here-requires : goal.nearest-here-requires
nearest-here-requires c =
    let laid = c.requires.laid in
    let some = laid.lawful.some in
    record {
      first = omega (arith, c.begin.ensures.rank 0 (omega arith));
      loads = laid.loads_len;
      labels = omega (arith, c.begin.ensures.len);
    }

pub loop-here-init : goal.loop-here-init
loop-here-init c =
    let network = c.args.network.now in
    let laid = c.requires.laid in
    let labels = c.begin.new.labels in
    record {
      laid = record {
        lawful = laid.lawful;
        table = laid.table;
        prices_len = laid.prices_len;
        loads_len = laid.loads_len;
        labels_len = c.begin.ensures.len ∙ laid.labels_len;
        arcs_len = laid.arcs_len;
        kept = laid.kept;
      };
      search = search_start network (used_of (size network) c.args.counts.now) (at c.args.prices.now) (at c.args.loads.now) labels c.args.start c.begin.ensures.start
          (λ o within ne. c.begin.ensures.far o (omega arith) ne) (λ o within. omega (arith, c.begin.ensures.rank o (omega arith)));
      nearest = c.nearest-here.ensures;
      looks = omega arith;
      looks_stay = omega arith;
    }

pub overflow_add-settled : goal.overflow_add-settled
overflow_add-settled c =
    let network = c.args.network.now in
    let here = c.loop-here in
    let few = c.requires.laid.lawful.few_options in
    let more = settled-lt (options network) here.labels here.here here.invariant.nearest.there here.invariant.nearest.open_yet in
    omega (arith, few, more, here.invariant.search.counted)

pub refresh-requires-clause-few : goal.refresh-requires-clause-few
refresh-requires-clause-few c =
    let network = c.args.network.now in
    let here = c.loop-here in
    let more = settled-lt (options network) here.labels here.here here.invariant.nearest.there here.invariant.nearest.open_yet in
    let within : here.settled + 1 ≤ options network = omega (arith, more, here.invariant.search.counted) in
    omega (arith, here.invariant.looks, c.requires.few, mul-le-mul_right (size network * options network) within)

pub settle-requires : goal.settle-requires
settle-requires c =
    let network = c.args.network.now in
    let here = c.loop-here in
    let used = used_of (size network) c.args.counts.now in
    let price = at c.args.prices.now in
    let load = at c.args.loads.now in
    let laid = here.invariant.laid in
    let state = c.requires.state in
    let some : 0 < load c.args.start = omega (arith, c.requires.over) in
    let near = nearest_near network laid.lawful used price load state here.labels c.args.start here.settled here.invariant.search here.here c.requires.start some here.invariant.nearest in
    let ranked = ranked-set here.labels here.here here.settled (omega (arith, laid.labels_len, here.invariant.nearest.there)) in
    record {
      here = here.invariant.nearest.there;
      prices = laid.prices_len;
      low = state.priced.low;
      labels = omega (arith, ranked-length here.labels here.here here.settled, laid.labels_len);
      arcs = c.refresh.ensures.arcs;
      near = omega (arith, near, ranked.same_dist here.here);
      uphill = least_uphill network laid.lawful used price load state c.refresh.new.self.least here.here here.invariant.nearest.there c.refresh.ensures.found;
    }

pub nearest-here-requires-in-loop-here : goal.nearest-here-requires-in-loop-here
nearest-here-requires-in-loop-here c =
    let network = c.args.network.now in
    let here = c.loop-here in
    let laid = here.invariant.laid in
    record {
      first = first_open network laid.lawful (used_of (size network) c.args.counts.now) (at c.args.prices.now) (at c.args.loads.now) c.requires.state c.settle.new.labels c.args.start (here.settled + 1) (search_more network laid.lawful (used_of (size network) c.args.counts.now) (at c.args.prices.now) (at c.args.loads.now) c.requires.state here.labels (with_rank here.labels here.here here.settled) c.settle.new.labels c.args.start here.settled here.here c.refresh.new.self.least c.requires.start (omega (arith, c.requires.over)) here.invariant.search here.invariant.nearest (omega (arith, c.loop-here-test.true, c.capacity.ensures, at-read c.args.loads.now here.here)) (ranked-set here.labels here.here here.settled (omega (arith, laid.labels_len, here.invariant.nearest.there))) c.refresh.ensures.found c.settle.ensures.followed);
      loads = laid.loads_len;
      labels = omega (arith, c.settle.ensures.len, ranked-length here.labels here.here here.settled, laid.labels_len);
    }

pub loop-here-preserved : goal.loop-here-preserved
loop-here-preserved c =
    let network = c.args.network.now in
    let here = c.loop-here in
    let laid = here.invariant.laid in
    record {
      laid = record {
        lawful = laid.lawful;
        table = laid.table;
        prices_len = laid.prices_len;
        loads_len = laid.loads_len;
        labels_len = omega (arith, c.settle.ensures.len, ranked-length here.labels here.here here.settled, laid.labels_len);
        arcs_len = c.refresh.ensures.arcs;
        kept = c.refresh.ensures.kept;
      };
      search = search_more network laid.lawful (used_of (size network) c.args.counts.now) (at c.args.prices.now) (at c.args.loads.now) c.requires.state here.labels (with_rank here.labels here.here here.settled) c.settle.new.labels c.args.start here.settled here.here c.refresh.new.self.least c.requires.start (omega (arith, c.requires.over)) here.invariant.search here.invariant.nearest (omega (arith, c.loop-here-test.true, c.capacity.ensures, at-read c.args.loads.now here.here)) (ranked-set here.labels here.here here.settled (omega (arith, laid.labels_len, here.invariant.nearest.there))) c.refresh.ensures.found c.settle.ensures.followed;
      nearest = c.nearest-here-in-loop-here.ensures;
      looks = omega (arith, c.refresh.ensures.looks, here.invariant.looks);
      looks_stay = omega (arith, c.refresh.ensures.looks_stay, here.invariant.looks_stay);
    }

pub loop-here-smaller : goal.loop-here-smaller
loop-here-smaller c =
    let network = c.args.network.now in
    let here = c.loop-here in
    let more = settled-lt (options network) here.labels here.here here.invariant.nearest.there here.invariant.nearest.open_yet in
    omega (arith, more, here.invariant.search.counted)

pub returns : goal.returns
returns c =
    let network = c.args.network.now in
    let here = c.loop-here in
    let used = used_of (size network) c.args.counts.now in
    let price = at c.args.prices.now in
    let load = at c.args.loads.now in
    let laid = here.invariant.laid in
    let state = c.requires.state in
    let some : 0 < load c.args.start = omega (arith, c.requires.over) in
    let near = nearest_near network laid.lawful used price load state here.labels c.args.start here.settled here.invariant.search here.here c.requires.start some here.invariant.nearest in
    let more = settled-lt (options network) here.labels here.here here.invariant.nearest.there here.invariant.nearest.open_yet in
    let within : here.settled ≤ options network = omega (arith, more, here.invariant.search.counted) in
    record {
      found = (
        here.settled,
        record {
          search = here.invariant.search;
          nearest = here.invariant.nearest;
          reach = near;
          room = omega (arith, c.loop-here-test.false, c.capacity.ensures, at-read c.args.loads.now here.here);
        },
      );
      laid = laid;
      looks = omega (arith, here.invariant.looks, mul-le-mul_right (size network * options network) within);
      looks_stay = here.invariant.looks_stay;
    }
