use Rattle.std.proofs.Common.{◌≡◌, ◌+◌, ◌++◌, ◌∷◌, [], length, ap, sym, subst, ◌∙◌, arith}
use Rattle.indexmap.proofs.CallerLemmas.{insert_entry-new}
use Rattle.pin_recent.specs.Sound.{Nowhere, bare, stored}
use Rattle.pin_recent.proofs.Picked.{length-picked_le}
use Rattle.pin_recent.proofs.Push.{on_ok, on_is_ok, not_got, length_more, push_tied, push_stored, push_all, push_trim}
use Rattle.pin_recent.proofs.store.Store.push.Goals as goal

pub end-number-requires : goal.end-number-requires
end-number-requires g c =
    let m = c.reserve.new.self in
    let all : length (stored m) ≡ length m.map.entries = c.reserve.ensures.ordered.all in
    omega (arith, all, c.reserve.ensures.spent, c.reserve.ensures.len, c.requires.fits, length-picked_le (bare m.map.entries) m.log.places.items)

pub returns-clause-ordered : goal.returns-clause-ordered
returns-clause-ordered g c =
    let m = c.reserve.new.self in
    let few = on_ok c.reserve.result c.reserve.ensures.few c.if-is_err.ensures.value in
    let room = on_ok c.reserve.result c.reserve.ensures.room c.if-is_err.ensures.value in
    let map = on_ok c.reserve.result c.reserve.ensures.map c.if-is_err.ensures.value in
    let test = g.K.PartialEq.eq c.args.key in
    let nowhere = subst (λ l. Nowhere test l) (sym c.reserve.ensures.pairs) c.requires.absent in
    let entries = on_is_ok c.insert.result c.insert.ensures.entries (c.insert.ensures.succeeds map) ∙ insert_entry-new g.K.PartialEq.eq m.map c.args.key _ (not_got test m.map.entries nowhere) in
    let more = length_more m.map.entries m.log.first m.log.places.items c.args.key _ c.insert.new.self.entries c.len-place.result c.push.new.self.first c.push.new.self.places.items
    c.reserve.ensures.ordered.tied few c.end-number.ensures entries c.len-place.ensures.len c.push.ensures.first c.push.ensures.places in
    record {
      tied = push_tied m.map.entries m.log.first m.log.places.items c.args.key _ c.insert.new.self.entries c.len-place.result c.push.new.self.first c.push.new.self.places.items
          c.reserve.ensures.ordered.tied few c.end-number.ensures entries c.len-place.ensures.len c.push.ensures.first c.push.ensures.places;
      all = push_all m.map.entries m.log.first m.log.places.items c.args.key _ c.insert.new.self.entries c.len-place.result c.push.new.self.first c.push.new.self.places.items
          c.reserve.ensures.ordered.tied few c.end-number.ensures entries c.len-place.ensures.len c.push.ensures.first c.push.ensures.places c.reserve.ensures.ordered.all;
      few = omega (arith, more, few);
      room = omega (arith, more, room, c.push.ensures.capacity);
    }

pub returns-clause-trim : goal.returns-clause-trim
returns-clause-trim g c =
    let m = c.reserve.new.self in
    let few = on_ok c.reserve.result c.reserve.ensures.few c.if-is_err.ensures.value in
    let map = on_ok c.reserve.result c.reserve.ensures.map c.if-is_err.ensures.value in
    let test = g.K.PartialEq.eq c.args.key in
    let nowhere = subst (λ l. Nowhere test l) (sym c.reserve.ensures.pairs) c.requires.absent in
    let entries = on_is_ok c.insert.result c.insert.ensures.entries (c.insert.ensures.succeeds map) ∙ insert_entry-new g.K.PartialEq.eq m.map c.args.key _ (not_got test m.map.entries nowhere) in
    push_trim m.map.entries m.log.first m.log.places.items c.args.key _ c.insert.new.self.entries c.len-place.result c.push.new.self.first c.push.new.self.places.items
    c.reserve.ensures.ordered.tied few c.end-number.ensures entries c.len-place.ensures.len c.push.ensures.first c.push.ensures.places c.reserve.ensures.trim

pub returns-clause-ok : goal.returns-clause-ok
returns-clause-ok g c =
    let m = c.reserve.new.self in
    let few = on_ok c.reserve.result c.reserve.ensures.few c.if-is_err.ensures.value in
    let map = on_ok c.reserve.result c.reserve.ensures.map c.if-is_err.ensures.value in
    let test = g.K.PartialEq.eq c.args.key in
    let nowhere = subst (λ l. Nowhere test l) (sym c.reserve.ensures.pairs) c.requires.absent in
    let entries = on_is_ok c.insert.result c.insert.ensures.entries (c.insert.ensures.succeeds map) ∙ insert_entry-new g.K.PartialEq.eq m.map c.args.key _ (not_got test m.map.entries nowhere) in
    push_stored m.map.entries m.log.first m.log.places.items c.args.key _ c.insert.new.self.entries c.len-place.result c.push.new.self.first c.push.new.self.places.items
    c.reserve.ensures.ordered.tied few c.end-number.ensures entries c.len-place.ensures.len c.push.ensures.first c.push.ensures.places
    ∙ ap (λ l. l ++ (c.args.key, c.args.value) ∷ []) c.reserve.ensures.stored

pub returns-clause-len : goal.returns-clause-len
returns-clause-len g c =
    let m = c.reserve.new.self in
    let few = on_ok c.reserve.result c.reserve.ensures.few c.if-is_err.ensures.value in
    let map = on_ok c.reserve.result c.reserve.ensures.map c.if-is_err.ensures.value in
    let test = g.K.PartialEq.eq c.args.key in
    let nowhere = subst (λ l. Nowhere test l) (sym c.reserve.ensures.pairs) c.requires.absent in
    let entries = on_is_ok c.insert.result c.insert.ensures.entries (c.insert.ensures.succeeds map) ∙ insert_entry-new g.K.PartialEq.eq m.map c.args.key _ (not_got test m.map.entries nowhere) in
    length_more m.map.entries m.log.first m.log.places.items c.args.key _ c.insert.new.self.entries c.len-place.result c.push.new.self.first c.push.new.self.places.items
    c.reserve.ensures.ordered.tied few c.end-number.ensures entries c.len-place.ensures.len c.push.ensures.first c.push.ensures.places
    ∙ ap (λ n. n + 1) c.reserve.ensures.len
