use Rattle.std.proofs.Math.Nat.{mul-le-mul_right}
use Rattle.std.proofs.Common.{◌≡◌, ◌+◌, ◌<◌, ◌≤◌, ◌≢◌, ℕ, length, sym, ap, subst, ◌∙◌, arith}
use Rattle.flow_planner_net.specs.Networks.{options, size, capacity, limit}
use Rattle.flow_planner_net.specs.States.{used_of, at}
use Rattle.flow_planner_net.proofs.Tables.{at-read}
use Rattle.flow_planner_repair.specs.Searches.{dist}
use Rattle.flow_planner_repair.specs.Pushes.{raised}
use Rattle.flow_planner_repair.proofs.Labels.{dist-is}
use Rattle.flow_planner_repair.proofs.PriceSteps.{raised_cheapest, raised_priced, raised_trail, raised_tight}
use Rattle.flow_planner_net.proofs.Loads.{load-le}
use Rattle.flow_planner_repair.proofs.RelieveSteps.{relieved_state, relieved_fits, relieved_less}
use Rattle.flow_planner_repair.proofs.ForgetSteps.{forgotten_kept}
use Rattle.flow_planner_repair.proofs.relieve.relieve.Goals as goal

pub raise-requires : goal.raise-requires
raise-requires c =
    let found = c.search-found.ensures.found.1 in
    record {
      prices = c.requires.laid.prices_len;
      labels = c.search-found.ensures.laid.labels_len;
      low = c.requires.state.priced.low;
      reach = omega (arith, found.reach, dist-is c.search-found.new.labels c.search-found.result);
    }

pub overflow_sub-over : goal.overflow_sub-over
overflow_sub-over c = omega (arith, c.requires.over, c.capacity.ensures, at-read c.args.loads.now c.args.start)

pub overflow_sub-room : goal.overflow_sub-room
overflow_sub-room c =
    let found = c.search-found.ensures.found.1 in
    omega (arith, found.room, c.capacity-2.ensures, at-read c.args.loads.now c.search-found.result)

pub push-moved-requires : goal.push-moved-requires
push-moved-requires c =
    let network = c.args.network.now in
    let labels = c.search-found.new.labels in
    let target = c.search-found.result in
    let settled = c.search-found.ensures.found.0 in
    let found = c.search-found.ensures.found.1 in
    let used = used_of (size network) c.args.counts.now in
    let price = at c.args.prices.now in
    let load = at c.args.loads.now in
    let laid = c.requires.laid in
    let new = at c.raise.new.prices in
    let change = subst (λ reach. (o : ℕ) → o < options network → new o ≡ raised (limit network) reach (dist labels o) (price o)) (sym (dist-is labels target)) c.raise.ensures.raised in
    record {
      lawful = laid.lawful;
      option = found.nearest.there;
      labels = c.search-found.ensures.laid.labels_len;
      table = laid.table;
      arcs = c.search-found.ensures.laid.arcs_len;
      placed = c.requires.state.placed;
      trail = raised_trail network laid.lawful used price load c.requires.state labels c.args.start target settled found new change;
      some = omega (arith, c.min-most.ensures, c.requires.over, c.capacity.ensures, at-read c.args.loads.now c.args.start, found.room, c.capacity-2.ensures, at-read c.args.loads.now target);
      few = omega (arith, c.requires.few, c.search-found.ensures.looks, mul-le-mul_right (options network) (found.search.ranks target found.nearest.there));
    }

pub search-found-requires-clause-few : goal.search-found-requires-clause-few
search-found-requires-clause-few c = omega (arith, c.requires.few)

pub carry-requires : goal.carry-requires
carry-requires c =
    let network = c.args.network.now in
    let target = c.search-found.result in
    let found = c.search-found.ensures.found.1 in
    let load = at c.args.loads.now in
    let laid = c.requires.laid in
    let over = at-read c.args.loads.now c.args.start in
    let room = at-read c.args.loads.now target in
    let q = c.push-moved.ensures.within in
    let small = load-le network laid.lawful (used_of (size network) c.args.counts.now) (at c.args.prices.now) load c.requires.state in
    let enough : c.push-moved.result ≤ load c.args.start = omega (arith, c.min-most.ensures, q) in
    record {
      source = omega (arith, laid.loads_len, c.requires.start);
      target = omega (arith, laid.loads_len, found.nearest.there);
      apart = λ same. absurd (omega (arith, ap load same, ap (capacity network) same, c.requires.over, found.room));
      enough = enough;
      room = omega (arith, small c.args.start c.requires.start, small target found.nearest.there);
    }

pub returns : goal.returns
returns c =
    let network = c.args.network.now in
    let labels = c.search-found.new.labels in
    let start = c.args.start in
    let target = c.search-found.result in
    let settled = c.search-found.ensures.found.0 in
    let found = c.search-found.ensures.found.1 in
    let old = used_of (size network) c.args.counts.now in
    let used = used_of (size network) c.push-moved.new.counts in
    let price = at c.args.prices.now in
    let load = at c.args.loads.now in
    let loaded = at c.carry.new.loads in
    let laid = c.requires.laid in
    let state = c.requires.state in
    let new = at c.raise.new.prices in
    let change = subst (λ reach. (o : ℕ) → o < options network → new o ≡ raised (limit network) reach (dist labels o) (price o)) (sym (dist-is labels target)) c.raise.ensures.raised in
    let q = c.push-moved.result in
    let over = at-read c.args.loads.now start in
    let room = at-read c.args.loads.now target in
    let taken : q + capacity network start ≤ load start = omega (arith, c.push-moved.ensures.within, c.min-most.ensures, c.requires.over, c.capacity.ensures) in
    let given : load target + q ≤ capacity network target = omega (arith, c.push-moved.ensures.within, c.min-most.ensures, found.room, c.capacity-2.ensures) in
    let apart : start ≢ target = λ same. absurd (omega (arith, ap load same, ap (capacity network) same, c.requires.over, found.room)) in
    let priced = raised_priced network laid.lawful old price load state labels start target settled found new change in
    let tight = raised_tight network laid.lawful old price load state labels start target settled found new change in
    let before = raised_cheapest network laid.lawful old price load state labels start target settled found new change in
    let cheapest = c.push-moved.ensures.cheapest new tight before in
    let less = relieved_less network old used price new load loaded labels start target q c.requires.start found.nearest.there apart state priced cheapest c.push-moved.ensures.pushed taken given c.carry.ensures.taken c.carry.ensures.given c.carry.ensures.others in
    let forgotten = c.push-moved.ensures.forgotten in
    record {
      laid = record {
        lawful = laid.lawful;
        table = c.push-moved.ensures.table ∙ laid.table;
        prices_len = c.raise.ensures.len ∙ laid.prices_len;
        loads_len = c.carry.ensures.len ∙ laid.loads_len;
        labels_len = c.search-found.ensures.laid.labels_len;
        arcs_len = record {
          pairs = ap length forgotten.fewer.least ∙ c.search-found.ensures.laid.arcs_len.pairs;
          marks = forgotten.fewer.marks ∙ c.search-found.ensures.laid.arcs_len.marks;
        };
        kept = forgotten_kept network old used c.search-found.new.arcs c.push-moved.new.arcs forgotten c.search-found.ensures.laid.kept;
      };
      state = relieved_state network old used price new load loaded labels start target q c.requires.start found.nearest.there apart state priced cheapest c.push-moved.ensures.pushed taken given c.carry.ensures.taken c.carry.ensures.given c.carry.ensures.others;
      less = omega (arith, less, c.push-moved.ensures.some);
      fits = relieved_fits network old used price new load loaded labels start target q c.requires.start found.nearest.there apart state priced cheapest c.push-moved.ensures.pushed taken given c.carry.ensures.taken c.carry.ensures.given c.carry.ensures.others;
      looks = omega (arith, c.push-moved.ensures.looks, c.search-found.ensures.looks, mul-le-mul_right (options network) (found.search.ranks target found.nearest.there));
      looks_stay = omega (arith, c.push-moved.ensures.looks_stay, c.search-found.ensures.looks_stay);
    }
