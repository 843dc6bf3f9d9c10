use Rattle.std.proofs.Common.{◌≡◌, ◌≤◌, length}
use Rattle.std.specs.VecDeque.{deque_capacity}
use Rattle.pin_recent.specs.Sound.{Tied, numbers, stored, next_number}
use Rattle.pin_recent.proofs.store.Store.trim.Given as goal

abbrev pub invariant-loop-place : goal.invariant-loop-place
invariant-loop-place g l = record {
  tied : Tied l.self.log.first l.self.log.places.items (numbers l.self.map.entries);
  entries : l.self.map.entries ≡ l.fn.self.map.entries;
  shown : stored l.self ≡ stored l.fn.self;
  capacity : deque_capacity l.self.log.places ≡ deque_capacity l.fn.self.log.places;
  next : next_number l.self ≡ next_number l.fn.self;
  shorter : length l.self.log.places.items ≤ length l.fn.self.log.places.items;
}

abbrev pub decreases-loop-place : goal.decreases-loop-place
decreases-loop-place g l = length l.self.log.places.items
