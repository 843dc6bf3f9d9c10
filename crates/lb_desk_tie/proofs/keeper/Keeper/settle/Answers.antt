use Rattle.std.proofs.Common.{◌≡◌, length, vec_len, arith, ap, sym, ◌∙◌}
use Rattle.std.specs.Prelude.{◌&&◌}
use Rattle.lb_desk_tie.specs.Receipts.{receipts_of, sights_of, all_rise}
use Rattle.lb_desk_tie.proofs.Settling.{last_is_own, rest_is_own, popped, popped_sights, all_seen, early_as, still_keeper, knows_itself, all_in_hand, as_many, share_as}
use Rattle.lb_desk_tie.proofs.keeper.Keeper.settle.Goals as goal

pub take_into-rising-requires-clause-table : goal.take_into-rising-requires-clause-table
take_into-rising-requires-clause-table g c =
    let inv = c.loop-pass.invariant in
    let own = last_is_own c.args.self.number c.loop-pass.passes.items c.pop.new.self.items c.in-Some.pass c.in-Some.ensures.items inv.own in
    inv.table ∙ ap g.B.Tables.table_of (sym own)

pub take_into-rising-requires-clause-keeper : goal.take_into-rising-requires-clause-keeper
take_into-rising-requires-clause-keeper g c = knows_itself c.loop-pass.seat.me c.args.self.history c.args.self.passes c.loop-pass.invariant.keeper

pub loop-pass-preserved : goal.loop-pass-preserved
loop-pass-preserved g c =
    let inv = c.loop-pass.invariant in
    let took = c.take_into-rising.ensures in
    let items = c.in-Some.ensures.items in
    record {
      table = took.table ∙ inv.table;
      keeper = still_keeper c.loop-pass.seat.me c.take_into-rising.new.seat.me c.args.self.history c.args.self.passes c.in-Some.pass.receipts c.in-Some.pass.sights inv.keeper took.keeper;
      own = rest_is_own c.args.self.number c.loop-pass.passes.items c.pop.new.self.items c.in-Some.pass items inv.own;
      lists = popped c.loop-pass.passes.items c.pop.new.self.items c.in-Some.pass c.loop-pass.seat.me.0.lists c.take_into-rising.new.seat.me.0.lists (receipts_of c.args.passes.items) items
          (ap (λ m. m.0.lists) took.keeper) inv.lists;
      sights = popped_sights c.loop-pass.passes.items c.pop.new.self.items c.in-Some.pass c.loop-pass.seat.me.0.sights c.take_into-rising.new.seat.me.0.sights (sights_of c.args.passes.items) items
          (ap (λ m. m.0.sights) took.keeper) inv.sights;
      rising = (λ i. took.rising i && inv.rising i) ∙ ap (λ m. all_rise m.0.lists) (sym took.keeper);
    }

pub settle-requires-clause-keeper : goal.settle-requires-clause-keeper
settle-requires-clause-keeper g c = knows_itself c.loop-pass.seat.me c.args.self.history c.args.self.passes c.loop-pass.invariant.keeper

pub settle-requires-clause-all : goal.settle-requires-clause-all
settle-requires-clause-all g c =
    let inv = c.loop-pass.invariant in
    let hand = all_in_hand c.loop-pass.passes.items c.loop-pass.seat.me.0.lists (receipts_of c.args.passes.items) (omega (arith, c.in_default.ensures.cases.0, c.loop-pass.passes.ok.0)) inv.lists in
    let many : length c.loop-pass.seat.me.0.lists ≡ vec_len c.args.passes = as_many c.loop-pass.seat.me.0.lists c.args.passes.items (vec_len c.args.passes) hand (omega (arith, c.args.passes.ok.0)) in
    let given : c.loop-pass.seat.me.0.passes ≡ c.args.self.passes = ap (λ m. m.0.passes) inv.keeper in
    omega (arith, c.requires.all)

pub returns-clause-passes : goal.returns-clause-passes
returns-clause-passes g c =
    let inv = c.loop-pass.invariant in
    let hand = all_in_hand c.loop-pass.passes.items c.loop-pass.seat.me.0.lists (receipts_of c.args.passes.items) (omega (arith, c.in_default.ensures.cases.0, c.loop-pass.passes.ok.0)) inv.lists in
    sym (as_many c.loop-pass.seat.me.0.lists c.args.passes.items (vec_len c.args.passes) hand (omega (arith, c.args.passes.ok.0))) ∙ c.settle.ensures.passes ∙ ap (λ m. m.0.passes) inv.keeper

pub returns-clause-share : goal.returns-clause-share
returns-clause-share g c =
    let inv = c.loop-pass.invariant in
    let hand = all_in_hand c.loop-pass.passes.items c.loop-pass.seat.me.0.lists (receipts_of c.args.passes.items) (omega (arith, c.in_default.ensures.cases.0, c.loop-pass.passes.ok.0)) inv.lists in
    share_as c.loop-pass.seat.me.0.history c.args.self.history c.loop-pass.seat.me.0.lists (receipts_of c.args.passes.items) (ap (λ m. m.0.history) inv.keeper) hand c.settle.ensures.share

pub returns-clause-sights : goal.returns-clause-sights
returns-clause-sights g c =
    let inv = c.loop-pass.invariant in
    let seen = all_seen c.loop-pass.passes.items c.loop-pass.seat.me.0.sights (sights_of c.args.passes.items) (omega (arith, c.in_default.ensures.cases.0, c.loop-pass.passes.ok.0)) inv.sights in
    early_as c.loop-pass.seat.me.0.history c.args.self.history c.loop-pass.seat.me.0.sights (sights_of c.args.passes.items) (ap (λ m. m.0.history) inv.keeper) seen c.settle.ensures.sights

pub returns-clause-rising : goal.returns-clause-rising
returns-clause-rising g c = c.loop-pass.invariant.rising ∙ c.settle.ensures.share.rise
