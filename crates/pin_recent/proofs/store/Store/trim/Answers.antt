use Rattle.std.proofs.Common.{◌≡◌, ◌≤◌, length, slice_get, sym, ap, ◌∙◌, arith}
use Rattle.std.proofs.lemmas.Option.{same_Some, slice_get_past}
use Rattle.pin_recent.specs.Sound.{bare, picked}
use Rattle.pin_recent.proofs.Columns.{length-bare}
use Rattle.pin_recent.proofs.Picked.{picked_none}
use Rattle.pin_recent.proofs.Turn.{dropped_tied}
use Rattle.pin_recent.proofs.store.Store.trim.Goals as goal

pub loop-place-preserved : goal.loop-place-preserved
loop-place-preserved g c =
    let s = c.loop-place.self in
    let inv = c.loop-place.invariant in
    let popped = c.pop.ensures.places in
    let rest = c.pop.new.self.places.items in
    let same : c.in-Some.place ≡ c.pop.result = same_Some c.in-Some.place c.pop.result (c.in-Some.ensures ∙ ap (λ l. slice_get l 0) popped) in
    let past : length s.map.entries ≤ c.pop.result = omega arith in
    let none = slice_get_past (bare s.map.entries) c.pop.result (omega (arith, past, length-bare s.map.entries)) in
    record {
      tied = dropped_tied s.log.first s.log.places.items rest s.map.entries c.pop.result c.pop.new.self.first inv.tied popped past c.pop.ensures.first;
      entries = inv.entries;
      shown = sym (ap (picked (bare s.map.entries)) popped ∙ picked_none (bare s.map.entries) c.pop.result rest none) ∙ inv.shown;
      capacity = c.pop.ensures.capacity ∙ inv.capacity;
      next = omega (arith, ap length popped, inv.next, c.pop.ensures.first);
      shorter = omega (arith, ap length popped, inv.shorter);
    }
