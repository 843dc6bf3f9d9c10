use Rattle.std.proofs.Common.{◌≡◌, length}
use Rattle.pin_table.specs.Tables.{with_pins}
use Rattle.lb_desk_core.specs.Expiring.{AreCounted, AreRising}
use Rattle.lb_desk_core.proofs.Expired.{younger}
use Rattle.lb_desk_core.proofs.expiring.let_go.Given as goal

abbrev pub invariant-loop-place : goal.invariant-loop-place
invariant-loop-place g l = record {
  rest : l.table ≡ with_pins l.fn.table l.table.pins;
  left : younger l.limit l.now l.fn.table.pins ≡ younger l.limit l.now l.table.pins;
  rising : AreRising l.table.pins;
  counted : AreCounted l.book l.table.pins;
  many : length l.book.pins ≡ length l.fn.book.pins;
  connections : l.book.connections ≡ l.fn.book.connections;
}

abbrev pub decreases-loop-place : goal.decreases-loop-place
decreases-loop-place g l = length l.table.pins
