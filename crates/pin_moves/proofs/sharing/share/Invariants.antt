use Rattle.std.proofs.Common.{◌≡◌, ◌⊎◌, ℕ, ◌+◌, ◌≤◌, true, cond, Option}
use Rattle.std.specs.List.{All, AllPairs}
use Rattle.lb_types_pins.specs.declared.kind.PinKind.{PinKind}
use Rattle.lb_types_pins.specs.Kinds.{kind_before, same_kind}
use Rattle.dual_cert_plan.specs.Plans.{pins_in_rows}
use Rattle.pin_set.specs.Rows.{sent}
use Rattle.pin_groups.specs.Counts.{counted_kind}
use Rattle.pin_moves.specs.Leftovers.{AreInOrder, GoesBehind}
use Rattle.pin_moves.specs.Moves.{counted_pins, moved_pins, move_before, moved_with, moved_to}
use Rattle.pin_moves.proofs.sharing.share.Given as goal

abbrev pub invariant-loop-wanted : goal.invariant-loop-wanted
invariant-loop-wanted l = record {
  ordered : AreInOrder l.left;
  within : l.wanted ≤ l.counted.count;
  left : (kind : PinKind) → pins_in_rows kind l.left + cond (same_kind kind (counted_kind l.usable l.counted)) l.counted.count 0
      ≡ pins_in_rows kind l.fn.left + cond (same_kind kind (counted_kind l.usable l.counted)) l.wanted 0;
  sent : (kind : PinKind) (to : Option ℕ) → moved_to l.usable l.moves.items kind to + sent l.left kind to
      ≡ moved_to l.usable l.fn.moves.items kind to + sent l.fn.left kind to;
  whole : (pins : PinKind)
      → moved_with l.moves.items pins.place pins.permitted pins.cost + cond (same_kind pins (counted_pins l.counted)) l.wanted 0
      ≡ moved_with l.fn.moves.items pins.place pins.permitted pins.cost + cond (same_kind pins (counted_pins l.counted)) l.counted.count 0;
  some : All (λ m. 1 ≤ m.count) l.moves.items;
  rising : AllPairs (λ a b. move_before a b ≡ true) l.moves.items;
  last : All (λ m. (kind_before (moved_pins m) (counted_pins l.counted) ≡ true)
      ⊎ ((moved_pins m ≡ counted_pins l.counted) × (1 ≤ l.wanted → GoesBehind l.left (counted_kind l.usable l.counted) m.to))) l.moves.items;
}

abbrev pub decreases-loop-wanted : goal.decreases-loop-wanted
decreases-loop-wanted l = l.wanted
