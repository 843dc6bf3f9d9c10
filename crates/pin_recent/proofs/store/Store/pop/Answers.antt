use Rattle.std.proofs.Common.{length, sym, ap, ◌∙◌, ◌∷◌, arith}
use Rattle.pin_recent.proofs.Taken.{taken_within, length_left, oldest_is, taken_tied, taken_picked, taken_all}
use Rattle.pin_recent.proofs.store.Store.pop.Goals as goal

pub settle-requires : goal.settle-requires
settle-requires g c =
    let s = c.args.self.now in
    record {
      in_log = taken_within s.map.entries c.swap_remove_index.new.self.entries s.log.first c.pop-place.new.self.first s.log.places.items c.pop-place.new.self.places.items
          c.pop-place.result c.in_ok-key.key c.in_ok-key.stamped c.requires.ordered.tied c.pop-place.ensures.places c.pop-place.ensures.first c.in_ok-key.ensures.entry c.in_ok-key.ensures.entries;
    }

pub trim-requires-clause-ordered : goal.trim-requires-clause-ordered
trim-requires-clause-ordered g c =
    let s = c.args.self.now in
    let t = c.settle.new.self in
    let shorter = length_left s.map.entries c.swap_remove_index.new.self.entries s.log.first c.pop-place.new.self.first s.log.places.items c.pop-place.new.self.places.items
    c.pop-place.result c.in_ok-key.key c.in_ok-key.stamped c.requires.ordered.tied c.pop-place.ensures.places c.pop-place.ensures.first c.in_ok-key.ensures.entry c.in_ok-key.ensures.entries in
    record {
      tied = taken_tied s.map.entries c.swap_remove_index.new.self.entries s.log.first c.pop-place.new.self.first s.log.places.items c.pop-place.new.self.places.items
          c.pop-place.result c.in_ok-key.key c.in_ok-key.stamped c.requires.ordered.tied c.pop-place.ensures.places c.pop-place.ensures.first c.in_ok-key.ensures.entry c.in_ok-key.ensures.entries
          t.map.entries t.log.first t.log.places.items c.settle.ensures.map c.settle.ensures.first c.settle.ensures.places;
      all = taken_all s.map.entries c.swap_remove_index.new.self.entries s.log.first c.pop-place.new.self.first s.log.places.items c.pop-place.new.self.places.items
          c.pop-place.result c.in_ok-key.key c.in_ok-key.stamped c.requires.ordered.tied c.pop-place.ensures.places c.pop-place.ensures.first c.in_ok-key.ensures.entry c.in_ok-key.ensures.entries
          t.map.entries t.log.first t.log.places.items c.settle.ensures.map c.settle.ensures.first c.settle.ensures.places c.requires.ordered.all;
      few = omega (arith, shorter, ap length c.settle.ensures.map, c.requires.ordered.few);
      room = omega (arith, shorter, ap length c.settle.ensures.map, c.requires.ordered.room, c.settle.ensures.capacity, c.pop-place.ensures.capacity);
    }

pub returns-clause-oldest : goal.returns-clause-oldest
returns-clause-oldest g c =
    let s = c.args.self.now in
    let t = c.settle.new.self in
    oldest_is s.map.entries c.swap_remove_index.new.self.entries s.log.first c.pop-place.new.self.first s.log.places.items c.pop-place.new.self.places.items
    c.pop-place.result c.in_ok-key.key c.in_ok-key.stamped c.requires.ordered.tied c.pop-place.ensures.places c.pop-place.ensures.first c.in_ok-key.ensures.entry c.in_ok-key.ensures.entries
    ∙ ap (λ l. (c.in_ok-key.key, c.in_ok-key.stamped.value) ∷ l)
    (sym (c.trim.ensures.stored
    ∙ taken_picked s.map.entries c.swap_remove_index.new.self.entries s.log.first c.pop-place.new.self.first s.log.places.items c.pop-place.new.self.places.items
    c.pop-place.result c.in_ok-key.key c.in_ok-key.stamped c.requires.ordered.tied c.pop-place.ensures.places c.pop-place.ensures.first c.in_ok-key.ensures.entry c.in_ok-key.ensures.entries
    t.map.entries t.log.first t.log.places.items c.settle.ensures.map c.settle.ensures.first c.settle.ensures.places))
