use Rattle.std.proofs.Common.{◌≡◌, Some, length, slice_get, IfSome, swap_remove, sym, ap, subst, ◌∙◌, arith}
use Rattle.pin_recent.proofs.Removed.{stands_there, length_left, removed_found, removed_within, removed_tied, removed_all, removed_stored}
use Rattle.pin_recent.proofs.store.Store.take_at.Goals as goal

pub put-requires-clause-from_first : goal.put-requires-clause-from_first
put-requires-clause-from_first g c =
    let s = c.args.self.now in
    let e = c.unwrap-stamped.result in
    let entry : Some e ≡ slice_get s.map.entries c.args.place = sym c.unwrap-stamped.ensures ∙ c.swap_remove_index.ensures.entry in
    let left = subst (λ o. IfSome o (λ p. c.swap_remove_index.new.self.entries ≡ swap_remove s.map.entries c.args.place p)) c.unwrap-stamped.ensures c.swap_remove_index.ensures.entries in
    (stands_there s.map.entries c.swap_remove_index.new.self.entries s.log.first s.log.places.items c.args.place e c.requires.ordered.tied c.requires.ordered.few entry left).0

pub put-requires-clause-below_end : goal.put-requires-clause-below_end
put-requires-clause-below_end g c =
    let s = c.args.self.now in
    let e = c.unwrap-stamped.result in
    let entry : Some e ≡ slice_get s.map.entries c.args.place = sym c.unwrap-stamped.ensures ∙ c.swap_remove_index.ensures.entry in
    let left = subst (λ o. IfSome o (λ p. c.swap_remove_index.new.self.entries ≡ swap_remove s.map.entries c.args.place p)) c.unwrap-stamped.ensures c.swap_remove_index.ensures.entries in
    (stands_there s.map.entries c.swap_remove_index.new.self.entries s.log.first s.log.places.items c.args.place e c.requires.ordered.tied c.requires.ordered.few entry left).1

pub settle-requires : goal.settle-requires
settle-requires g c =
    let s = c.args.self.now in
    let e = c.unwrap-stamped.result in
    let entry : Some e ≡ slice_get s.map.entries c.args.place = sym c.unwrap-stamped.ensures ∙ c.swap_remove_index.ensures.entry in
    let left = subst (λ o. IfSome o (λ p. c.swap_remove_index.new.self.entries ≡ swap_remove s.map.entries c.args.place p)) c.unwrap-stamped.ensures c.swap_remove_index.ensures.entries in
    record {
      in_log = removed_within s.map.entries c.swap_remove_index.new.self.entries s.log.first s.log.places.items c.args.place e c.requires.ordered.tied c.requires.ordered.few entry left
          c.put.new.self.first c.put.new.self.places.items c.put.ensures.first c.put.ensures.places;
    }

pub trim-requires-clause-ordered : goal.trim-requires-clause-ordered
trim-requires-clause-ordered g c =
    let s = c.args.self.now in
    let t = c.settle.new.self in
    let e = c.unwrap-stamped.result in
    let entry : Some e ≡ slice_get s.map.entries c.args.place = sym c.unwrap-stamped.ensures ∙ c.swap_remove_index.ensures.entry in
    let left = subst (λ o. IfSome o (λ p. c.swap_remove_index.new.self.entries ≡ swap_remove s.map.entries c.args.place p)) c.unwrap-stamped.ensures c.swap_remove_index.ensures.entries in
    let shorter = length_left s.map.entries c.swap_remove_index.new.self.entries s.log.first s.log.places.items c.args.place e c.requires.ordered.tied c.requires.ordered.few entry left in
    record {
      tied = removed_tied s.map.entries c.swap_remove_index.new.self.entries s.log.first s.log.places.items c.args.place e c.requires.ordered.tied c.requires.ordered.few entry left
          c.put.new.self.first c.put.new.self.places.items c.put.ensures.first c.put.ensures.places t.map.entries t.log.first t.log.places.items c.settle.ensures.map c.settle.ensures.first c.settle.ensures.places;
      all = removed_all s.map.entries c.swap_remove_index.new.self.entries s.log.first s.log.places.items c.args.place e c.requires.ordered.tied c.requires.ordered.few entry left
          c.put.new.self.first c.put.new.self.places.items c.put.ensures.first c.put.ensures.places t.map.entries t.log.first t.log.places.items c.settle.ensures.map c.settle.ensures.first c.settle.ensures.places
          c.requires.ordered.all;
      few = omega (arith, shorter, ap length c.settle.ensures.map, c.requires.ordered.few);
      room = omega (arith, shorter, ap length c.settle.ensures.map, c.requires.ordered.room, c.settle.ensures.capacity, c.put.ensures.capacity);
    }

pub returns-clause-old : goal.returns-clause-old
returns-clause-old g c = λ test only.
    let s = c.args.self.now in
    let e = c.unwrap-stamped.result in
    let entry : Some e ≡ slice_get s.map.entries c.args.place = sym c.unwrap-stamped.ensures ∙ c.swap_remove_index.ensures.entry in
    let left = subst (λ o. IfSome o (λ p. c.swap_remove_index.new.self.entries ≡ swap_remove s.map.entries c.args.place p)) c.unwrap-stamped.ensures c.swap_remove_index.ensures.entries in
    removed_found s.map.entries c.swap_remove_index.new.self.entries s.log.first s.log.places.items c.args.place e c.requires.ordered.tied c.requires.ordered.few entry left test only

pub returns-clause-left : goal.returns-clause-left
returns-clause-left g c = λ test only.
    let s = c.args.self.now in
    let t = c.settle.new.self in
    let e = c.unwrap-stamped.result in
    let entry : Some e ≡ slice_get s.map.entries c.args.place = sym c.unwrap-stamped.ensures ∙ c.swap_remove_index.ensures.entry in
    let left = subst (λ o. IfSome o (λ p. c.swap_remove_index.new.self.entries ≡ swap_remove s.map.entries c.args.place p)) c.unwrap-stamped.ensures c.swap_remove_index.ensures.entries in
    c.trim.ensures.stored
    ∙ removed_stored s.map.entries c.swap_remove_index.new.self.entries s.log.first s.log.places.items c.args.place e c.requires.ordered.tied c.requires.ordered.few entry left
    c.put.new.self.first c.put.new.self.places.items c.put.ensures.first c.put.ensures.places t.map.entries t.log.first t.log.places.items c.settle.ensures.map c.settle.ensures.first c.settle.ensures.places
    test only
