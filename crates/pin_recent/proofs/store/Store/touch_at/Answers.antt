use Rattle.std.proofs.Common.{◌≡◌, ◌-◌, length, ◌++◌, ◌∷◌, [], sym, ap, subst, ◌∙◌, length-append, length-set, arith}
use Rattle.std.specs.Map.{lookup}
use Rattle.indexmap.specs.Layout.{length-set_value_at}
use Rattle.pin_recent.specs.Recent.{touched}
use Rattle.pin_recent.specs.Sound.{OnlyAt, bare, stored}
use Rattle.pin_recent.proofs.Picked.{length-picked_le}
use Rattle.pin_recent.proofs.Touch.{stood, touch_tied, touch_all, touch_stored, touch_found}
use Rattle.pin_recent.proofs.store.Store.touch_at.Goals as goal

pub end-number-requires : goal.end-number-requires
end-number-requires g c =
    let m = c.make_room.new.self in
    let all : length (stored m) ≡ length m.map.entries = c.make_room.ensures.ordered.all in
    omega (arith, all, c.make_room.ensures.spent, c.make_room.ensures.len, c.requires.fits, length-picked_le (bare m.map.entries) m.log.places.items)

pub put-requires-clause-from_first : goal.put-requires-clause-from_first
put-requires-clause-from_first g c =
    let m = c.make_room.new.self in
    (stood m.map.entries m.log.first m.log.places.items c.args.place c.pair_mut-stamped.result.0.now c.replace-old.result c.pair_mut-stamped.result.1.now c.replace-old.new.dest
    c.args.value c.end-number.result c.make_room.ensures.ordered.tied c.make_room.ensures.ordered.few c.pair_mut-stamped.ensures.value c.replace-old.ensures.value c.replace-old.ensures.after c.end-number.ensures).0

pub put-requires-clause-below_end : goal.put-requires-clause-below_end
put-requires-clause-below_end g c =
    let m = c.make_room.new.self in
    (stood m.map.entries m.log.first m.log.places.items c.args.place c.pair_mut-stamped.result.0.now c.replace-old.result c.pair_mut-stamped.result.1.now c.replace-old.new.dest
    c.args.value c.end-number.result c.make_room.ensures.ordered.tied c.make_room.ensures.ordered.few c.pair_mut-stamped.ensures.value c.replace-old.ensures.value c.replace-old.ensures.after c.end-number.ensures).1

pub trim-requires-clause-ordered : goal.trim-requires-clause-ordered
trim-requires-clause-ordered g c =
    let m = c.make_room.new.self in
    let first = c.push.ensures.first ∙ c.put.ensures.first in
    let places = c.push.ensures.places ∙ ap (λ l. l ++ c.args.place ∷ []) c.put.ensures.places in
    let len = length-set_value_at m.map.entries c.args.place c.replace-old.new.dest in
    record {
      tied = touch_tied m.map.entries m.log.first m.log.places.items c.args.place c.pair_mut-stamped.result.0.now c.replace-old.result c.pair_mut-stamped.result.1.now c.replace-old.new.dest
          c.args.value c.end-number.result c.make_room.ensures.ordered.tied c.make_room.ensures.ordered.few c.pair_mut-stamped.ensures.value c.replace-old.ensures.value c.replace-old.ensures.after c.end-number.ensures
          c.push.new.self.first c.push.new.self.places.items first places;
      all = touch_all m.map.entries m.log.first m.log.places.items c.args.place c.pair_mut-stamped.result.0.now c.replace-old.result c.pair_mut-stamped.result.1.now c.replace-old.new.dest
          c.args.value c.end-number.result c.make_room.ensures.ordered.tied c.make_room.ensures.ordered.few c.pair_mut-stamped.ensures.value c.replace-old.ensures.value c.replace-old.ensures.after c.end-number.ensures
          c.push.new.self.first c.push.new.self.places.items first places c.make_room.ensures.ordered.all;
      few = omega (arith, len, c.make_room.ensures.ordered.few);
      room = omega (arith, len, c.make_room.ensures.ordered.room, c.push.ensures.capacity, c.put.ensures.capacity);
    }

pub trim-requires-clause-fits : goal.trim-requires-clause-fits
trim-requires-clause-fits g c =
    let m = c.make_room.new.self in
    let all : length (stored m) ≡ length m.map.entries = c.make_room.ensures.ordered.all in
    omega (
      arith,
      all,
      c.make_room.ensures.spent,
      c.make_room.ensures.len,
      c.requires.fits,
      length-picked_le (bare m.map.entries) m.log.places.items,
      c.push.ensures.first,
      c.put.ensures.first,
      ap length c.push.ensures.places,
      ap length c.put.ensures.places,
      length-append c.put.new.self.places.items (c.args.place ∷ []),
      length-set m.log.places.items (c.replace-old.result.number - m.log.first) 4294967295,
    )

pub returns-clause-old : goal.returns-clause-old
returns-clause-old g c = λ test only.
    let m = c.make_room.new.self in
    ap (lookup test) (sym c.make_room.ensures.stored)
    ∙ touch_found m.map.entries m.log.first m.log.places.items c.args.place c.pair_mut-stamped.result.0.now c.replace-old.result c.pair_mut-stamped.result.1.now c.replace-old.new.dest
    c.args.value c.end-number.result c.make_room.ensures.ordered.tied c.make_room.ensures.ordered.few c.pair_mut-stamped.ensures.value c.replace-old.ensures.value c.replace-old.ensures.after c.end-number.ensures
    test (subst (λ l. OnlyAt test c.args.place l) (sym c.make_room.ensures.pairs) only)

pub returns-clause-stored : goal.returns-clause-stored
returns-clause-stored g c = λ test only.
    let m = c.make_room.new.self in
    let first = c.push.ensures.first ∙ c.put.ensures.first in
    let places = c.push.ensures.places ∙ ap (λ l. l ++ c.args.place ∷ []) c.put.ensures.places in
    c.trim.ensures.stored
    ∙ touch_stored m.map.entries m.log.first m.log.places.items c.args.place c.pair_mut-stamped.result.0.now c.replace-old.result c.pair_mut-stamped.result.1.now c.replace-old.new.dest
    c.args.value c.end-number.result c.make_room.ensures.ordered.tied c.make_room.ensures.ordered.few c.pair_mut-stamped.ensures.value c.replace-old.ensures.value c.replace-old.ensures.after c.end-number.ensures
    c.push.new.self.first c.push.new.self.places.items first places test (subst (λ l. OnlyAt test c.args.place l) (sym c.make_room.ensures.pairs) only)
    ∙ ap (touched test c.args.value) c.make_room.ensures.stored

pub returns-clause-len : goal.returns-clause-len
returns-clause-len g c =
    c.trim.ensures.len ∙ length-set_value_at c.make_room.new.self.map.entries c.args.place c.replace-old.new.dest ∙ c.make_room.ensures.len
