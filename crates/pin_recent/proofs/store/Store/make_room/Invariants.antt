use Rattle.std.proofs.Common.{◌≡◌, ◌+◌, ◌-◌, length}
use Rattle.std.specs.VecDeque.{deque_capacity}
use Rattle.pin_recent.specs.Sound.{Tied, bare, numbers, stored}
use Rattle.pin_recent.proofs.Turn.{Turning}
use Rattle.pin_recent.proofs.store.Store.make_room.Given as goal

abbrev pub invariant-loop-i : goal.invariant-loop-i
invariant-loop-i g l = record {
  tied : Tied l.self.log.first l.self.log.places.items (numbers l.self.map.entries);
  first : l.self.log.first ≡ l.fn.self.log.first + l.i;
  capacity : deque_capacity l.self.log.places ≡ deque_capacity l.fn.self.log.places;
  pairs : bare l.self.map.entries ≡ bare l.fn.self.map.entries;
  len : length l.self.map.entries ≡ length l.fn.self.map.entries;
  turning : Turning (bare l.fn.self.map.entries) (stored l.fn.self) l.self.log.places.items (length l.fn.self.log.places.items - l.i);
}
