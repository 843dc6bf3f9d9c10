use Rattle.std.proofs.Common.{ℕ, slice_set, ◌-◌, sym, ap, ◌∙◌}
use Rattle.std.specs.Option.{option_map_or}
use Rattle.pin_recent.proofs.Columns.{number_at, number_none}
use Rattle.pin_recent.proofs.store.Store.settle.Goals as goal

pub put-requires-clause-from_first : goal.put-requires-clause-from_first
put-requires-clause-from_first g c =
    let es = c.args.self.now.map.entries in
    (c.requires.in_log c.in-Some.moved.now.number (number_at es c.args.place (c.in-Some.field-0-0.now, c.in-Some.moved.now) (sym c.in-Some.ensures.entry))).0

pub put-requires-clause-below_end : goal.put-requires-clause-below_end
put-requires-clause-below_end g c =
    let es = c.args.self.now.map.entries in
    (c.requires.in_log c.in-Some.moved.now.number (number_at es c.args.place (c.in-Some.field-0-0.now, c.in-Some.moved.now) (sym c.in-Some.ensures.entry))).1

pub returns-in-Some-clause-places : goal.returns-in-Some-clause-places
returns-in-Some-clause-places g c =
    let s = c.args.self.now in
    c.put.ensures.places
    ∙ ap (λ o. option_map_or (λ (n : ℕ). slice_set s.log.places.items (n - s.log.first) c.args.place) o s.log.places.items)
    (sym (number_at s.map.entries c.args.place (c.in-Some.field-0-0.now, c.in-Some.moved.now) (sym c.in-Some.ensures.entry)))

pub returns-in_default-clause-places : goal.returns-in_default-clause-places
returns-in_default-clause-places g c =
    let s = c.args.self.now in
    ap (λ o. option_map_or (λ (n : ℕ). slice_set s.log.places.items (n - s.log.first) c.args.place) o s.log.places.items)
    (sym (number_none s.map.entries c.args.place (sym c.in_default.ensures.entry)))
