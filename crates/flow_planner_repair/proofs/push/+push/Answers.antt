use Rattle.std.proofs.Common.{◌≡◌, ◌≤◌, refl, ap, length, subst, ◌∙◌, arith}
use Rattle.std.proofs.Math.Nat.{mul-le-mul_right}
use Rattle.flow_planner_net.specs.Networks.{options, size}
use Rattle.flow_planner_net.specs.States.{used_of}
use Rattle.flow_planner_net.specs.Moves.{IsMoved}
use Rattle.flow_planner_net.proofs.Tables.{place-lt}
use Rattle.flow_planner_repair.specs.Searches.{source, via}
use Rattle.flow_planner_repair.proofs.PushSteps.{pushed_none, pushed_more, pushed_cheapest, still_there, trail_back, tight_back}
use Rattle.flow_planner_repair.proofs.ForgetSteps.{forgotten_none, forgotten_both}
use Rattle.flow_planner_repair.proofs.push.+push.Goals as goal

pub returns-then-option-start : goal.returns-then-option-start
returns-then-option-start t c =
    let network = c.args.network.now in
    let used = used_of (size network) c.args.counts.now in
    record {
      some = c.requires.some;
      within = omega arith;
      table = refl;
      pushed = pushed_none network used c.args.labels.now c.args.start c.args.option c.args.wanted c.if-option-start.true;
      cheapest = λ price tight cheapest. cheapest;
      forgotten = forgotten_none network used c.args.arcs.now;
      looks = omega arith;
      looks_stay = omega arith;
    }

pub pins_of-held-requires : goal.pins_of-held-requires
unfolding source via
pins_of-held-requires t c =
    let network = c.args.network.now in
    let labels = c.args.labels.now in
    let option = c.args.option in
    let tied = c.requires.trail option c.requires.option c.if-option-start.false (omega arith) in
    rw c.size-width.ensures.exact (omega (arith, c.requires.table, place-lt (size network) (options network) (source labels option) (via labels option) tied.source_in tied.via_in))

pub push-moved-requires : goal.push-moved-requires
unfolding source via
push-moved-requires t c =
    let network = c.args.network.now in
    let labels = c.args.labels.now in
    let option = c.args.option in
    let used = used_of (size network) c.args.counts.now in
    let tied = c.requires.trail option c.requires.option c.if-option-start.false (omega arith) in
    let held : c.pins_of-held.result ≡ used (source labels option) (via labels option) = rw (← c.size-width.ensures.exact) c.pins_of-held.ensures in
    let carried = tied.carried in (
      omega (arith, tied.earlier, c.decreases),
      (
        c.requires.lawful,
        (
          tied.source_in,
          (
            c.requires.labels,
            (
              c.requires.table,
              (
                c.requires.arcs,
                (
                  c.requires.placed,
                  (
                    trail_back network used labels c.args.start option tied c.requires.trail,
                    (omega (arith, c.min-most.ensures, c.requires.some), omega (arith, c.requires.few, mul-le-mul_right (options network) tied.earlier)),
                  ),
                ),
              ),
            ),
          ),
        ),
      ),
    )

pub shift-requires : goal.shift-requires
unfolding source via
shift-requires t c =
    let network = c.args.network.now in
    let labels = c.args.labels.now in
    let option = c.args.option in
    let before = source labels option in
    let group = via labels option in
    let old = used_of (size network) c.args.counts.now in
    let middle = used_of (size network) c.push-moved.new.counts in
    let tied = c.requires.trail option c.requires.option c.if-option-start.false (omega arith) in
    let held : c.pins_of-held.result ≡ old before group = rw (← c.size-width.ensures.exact) c.pins_of-held.ensures in
    let made = c.push-moved.ensures in
    let q = c.push-moved.result in
    let enough : q ≤ old before group = omega (arith, made.within, c.min-most.ensures) in
    let there = still_there network old middle labels c.args.start option before group q c.requires.lawful c.requires.placed c.requires.option tied made.pushed enough in
    let width = c.size-width.ensures.exact in
    let many : q ≤ 16777216 = omega (arith, there.0, there.1) in
    rw width (record {
      group = tied.via_in;
      source = omega (arith, made.table, c.requires.table, place-lt (size network) (options network) before group tied.source_in tied.via_in);
      target = omega (arith, made.table, c.requires.table, place-lt (size network) (options network) option group c.requires.option tied.via_in);
      apart = there.2;
      enough = there.0;
      room = omega (arith, there.1, many);
    })

pub forget_move-requires : goal.forget_move-requires
unfolding source via
forget_move-requires t c =
    let network = c.args.network.now in
    let labels = c.args.labels.now in
    let option = c.args.option in
    let tied = c.requires.trail option c.requires.option c.if-option-start.false (omega arith) in
    let inner = c.push-moved.ensures in
    record {
      source = tied.source_in;
      target = c.requires.option;
      group = tied.via_in;
      arcs = record {
        pairs = ap length inner.forgotten.fewer.least ∙ c.requires.arcs.pairs;
        marks = inner.forgotten.fewer.marks ∙ c.requires.arcs.marks;
      };
      table = c.shift.ensures.len ∙ (inner.table ∙ c.requires.table);
      few = omega (arith, inner.looks, c.requires.few, mul-le-mul_right (options network) tied.earlier);
    }

pub returns : goal.returns
unfolding source via
returns t c =
    let network = c.args.network.now in
    let labels = c.args.labels.now in
    let option = c.args.option in
    let start = c.args.start in
    let before = source labels option in
    let group = via labels option in
    let old = used_of (size network) c.args.counts.now in
    let middle = used_of (size network) c.push-moved.new.counts in
    let new = used_of (size network) c.shift.new.counts in
    let tied = c.requires.trail option c.requires.option c.if-option-start.false (omega arith) in
    let made = c.push-moved.ensures in
    let q = c.push-moved.result in
    let width = c.size-width.ensures.exact in
    let move : IsMoved (size network) middle new before option group q =
    subst (λ w. IsMoved w (used_of w c.push-moved.new.counts) (used_of w c.shift.new.counts) before option group q) width c.shift.ensures.moved in
    rw c.note_move.ensures (record {
      some = made.some;
      within = omega (arith, made.within, c.min-most.ensures);
      table = c.shift.ensures.len ∙ made.table;
      pushed = pushed_more network old middle new labels start option before group q c.requires.option tied made.pushed move;
      cheapest = λ price tight cheapest.
          pushed_cheapest network old middle new labels start option before group q c.requires.option tied made.pushed move price
          (tight option c.requires.option c.if-option-start.false (omega arith))
          (made.cheapest price (tight_back network old price labels start option tied tight) cheapest);
      forgotten = forgotten_both network old middle new c.args.arcs.now c.push-moved.new.arcs c.forget_move.new.arcs made.forgotten
          (c.forget_move.ensures.forgotten middle move);
      looks = omega (arith, c.forget_move.ensures.looks, made.looks, mul-le-mul_right (options network) tied.earlier);
      looks_stay = omega (arith, c.forget_move.ensures.looks_stay, made.looks_stay);
    })
