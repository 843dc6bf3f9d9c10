use Rattle.std.proofs.Common.{◌≡◌, [], ◌++◌, vec_len}
use Rattle.lb_desk_tie.specs.Receipts.{receipts_of, sights_of, AreOf, all_rise}
use Rattle.lb_desk_tie.specs.Rule.{keeper_view}
use Rattle.lb_desk_tie.proofs.keeper.Keeper.settle.Given as goal

abbrev pub invariant-loop-pass : goal.invariant-loop-pass
invariant-loop-pass g l = record {
  table : l.seat.table_id ≡ g.B.Tables.table_of l.fn.self.number;
  keeper : l.seat.me ≡ (keeper_view l.fn.self.history l.fn.self.passes l.seat.me.0.lists l.seat.me.0.sights, []);
  own : AreOf l.fn.self.number l.passes.items;
  lists : receipts_of l.passes.items ++ l.seat.me.0.lists ≡ receipts_of l.fn.passes.items;
  sights : sights_of l.passes.items ++ l.seat.me.0.sights ≡ sights_of l.fn.passes.items;
  rising : l.rising ≡ all_rise l.seat.me.0.lists;
}

abbrev pub decreases-loop-pass : goal.decreases-loop-pass
decreases-loop-pass g l = vec_len l.passes
