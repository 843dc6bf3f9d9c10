use Rattle.std.proofs.Common.{List, ap, ◌∙◌, arith}
use Rattle.pin_set.specs.declared.table_pin.TablePin.{TablePin}
use Rattle.pin_table.specs.Tables.{with_pins}
use Rattle.lb_desk_core.proofs.Expired.{gone_rising, gone_younger, all_gone, counted_gone}
use Rattle.lb_desk_core.proofs.Leaving.{other_pins, gone_held, gone_counted}
use Rattle.lb_desk_core.proofs.expiring.let_go.Goals as goal

pub leave-requires : goal.leave-requires
leave-requires g c = record {
  held = gone_held c.loop-place.book c.args.limit c.args.now c.in-Some.place c.loop-place.table.pins c.pop_older.new.table.pins
      c.loop-place.invariant.counted c.in-Some.ensures.gone;
}

pub loop-place-preserved : goal.loop-place-preserved
loop-place-preserved g c =
    let so_far = c.loop-place.invariant in
    let old = c.loop-place.table.pins in
    let new = c.pop_older.new.table.pins in
    let gone = c.in-Some.ensures.gone in
    record {
      rest = other_pins c.args.table.now c.loop-place.table c.pop_older.new.table so_far.rest c.in-Some.ensures.rest;
      left = gone_younger c.args.limit c.args.now c.in-Some.place c.args.table.now.pins old new gone so_far.left;
      rising = gone_rising c.args.limit c.args.now c.in-Some.place old new gone so_far.rising;
      counted = gone_counted c.loop-place.book c.leave.new.book c.args.limit c.args.now c.in-Some.place old new so_far.counted gone
          c.leave.ensures.many c.leave.ensures.pins;
      many = c.leave.ensures.many ∙ so_far.many;
      connections = c.leave.ensures.connections ∙ so_far.connections;
    }

pub overflow_sub-result : goal.overflow_sub-result
overflow_sub-result g c =
    let so_far = c.loop-place.invariant in
    let left = all_gone c.args.limit c.args.now c.args.table.now.pins c.loop-place.table.pins c.pop_older.new.table.pins
    so_far.left so_far.rising c.in_default.ensures.none c.in_default.ensures.kept in
    let many = counted_gone c.args.limit c.args.now c.args.table.now.pins c.pop_older.new.table.pins left in
    omega (arith, many, c.len-before.ensures.exact, c.len.ensures.exact)

pub returns-clause-gone : goal.returns-clause-gone
returns-clause-gone g c =
    let so_far = c.loop-place.invariant in
    let left = all_gone c.args.limit c.args.now c.args.table.now.pins c.loop-place.table.pins c.pop_older.new.table.pins
    so_far.left so_far.rising c.in_default.ensures.none c.in_default.ensures.kept in
    let many = counted_gone c.args.limit c.args.now c.args.table.now.pins c.pop_older.new.table.pins left in
    omega (arith, many, c.len-before.ensures.exact, c.len.ensures.exact)

pub returns-clause-left : goal.returns-clause-left
returns-clause-left g c =
    let so_far = c.loop-place.invariant in
    let left = all_gone c.args.limit c.args.now c.args.table.now.pins c.loop-place.table.pins c.pop_older.new.table.pins
    so_far.left so_far.rising c.in_default.ensures.none c.in_default.ensures.kept in
    other_pins c.args.table.now c.loop-place.table c.pop_older.new.table so_far.rest c.in_default.ensures.rest
    ∙ ap (λ (pins : List TablePin). with_pins c.args.table.now pins) left
