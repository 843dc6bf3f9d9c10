use Rattle.std.proofs.Common.{◌<◌, ◌≤◌, length, refl, ◌∙◌, arith}
use Rattle.indexmap.specs.Layout.{length-set_value_at}
use Rattle.pin_recent.proofs.Columns.{bare_kept}
use Rattle.pin_recent.proofs.Turn.{turned_tied, dropped_tied}
use Rattle.pin_recent.proofs.store.Store.turn.Goals as goal

pub returns-then-place-len-clause-tied : goal.returns-then-place-len-clause-tied
returns-then-place-len-clause-tied g c =
    let s = c.args.self.now in
    let within : c.pop-place.result < length s.map.entries = omega arith in
    turned_tied s.log.first s.log.places.items c.pop-place.new.self.places.items s.map.entries c.pop-place.result _ c.push.new.self.first c.push.new.self.places.items
    c.requires.tied c.pop-place.ensures.places within c.requires.few c.end-number.ensures (c.push.ensures.first ∙ c.pop-place.ensures.first) c.push.ensures.places

pub returns-then-place-len-clause-pairs : goal.returns-then-place-len-clause-pairs
returns-then-place-len-clause-pairs g c = bare_kept c.args.self.now.map.entries c.pop-place.result _ _ c.pair_mut-stamped.ensures.value refl

pub returns-then-place-len-clause-len : goal.returns-then-place-len-clause-len
returns-then-place-len-clause-len g c = length-set_value_at c.args.self.now.map.entries c.pop-place.result _

pub returns-else-place-len-clause-tied : goal.returns-else-place-len-clause-tied
returns-else-place-len-clause-tied g c =
    let s = c.args.self.now in
    let past : length s.map.entries ≤ c.pop-place.result = omega arith in
    dropped_tied s.log.first s.log.places.items c.pop-place.new.self.places.items s.map.entries c.pop-place.result c.pop-place.new.self.first
    c.requires.tied c.pop-place.ensures.places past c.pop-place.ensures.first
