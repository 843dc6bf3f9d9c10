use Rattle.std.proofs.Common.{◌≡◌, ℕ, ◌+◌, ◌<◌, ◌≤◌, true, cond, Option, length, get_or, take, drop}
use Rattle.std.specs.List.{sum_by, All, AllPairs}
use Rattle.lb_types_pins.specs.declared.kind.PinKind.{PinKind}
use Rattle.lb_types_pins.specs.Kinds.{kind_before, same_kind}
use Rattle.dual_cert_plan.specs.Plans.{pins_in_rows}
use Rattle.pin_set.specs.Rows.{sent}
use Rattle.pin_set.specs.declared.pin_count.PinCount.{PinCount}
use Rattle.pin_groups.specs.Counts.{counted_kind, counted_with}
use Rattle.pin_moves.specs.Leftovers.{AreInOrder}
use Rattle.pin_moves.specs.Moves.{counted_pins, moved_pins, move_before, moved_with, moved_to}
use Rattle.pin_moves.proofs.sharing.shared_out.Given as goal

abbrev pub invariant-loop-counted : goal.invariant-loop-counted
invariant-loop-counted l = record {
  ordered : AreInOrder l.left.items;
  left : (kind : PinKind) → sum_by (λ c. cond (same_kind kind (counted_kind l.usable c)) c.count 0) (drop l.counted-index l.counts)
      ≡ pins_in_rows kind l.left.items;
  sent : (kind : PinKind) (to : Option ℕ) → moved_to l.usable l.moves.items kind to + sent l.left.items kind to ≡ sent l.rows kind to;
  whole : (pins : PinKind) → moved_with l.moves.items pins.place pins.permitted pins.cost
      ≡ counted_with (take l.counted-index l.counts) pins.place pins.permitted pins.cost;
  some : All (λ m. 1 ≤ m.count) l.moves.items;
  rising : AllPairs (λ a b. move_before a b ≡ true) l.moves.items;
  behind : All (λ m. (j : ℕ) (d : PinCount) → l.counted-index ≤ j → j < length l.counts
      → kind_before (moved_pins m) (counted_pins (get_or l.counts j d)) ≡ true) l.moves.items;
}
