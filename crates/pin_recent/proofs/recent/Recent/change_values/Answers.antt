use Rattle.std.proofs.Common.{◌∙◌, IsPermutation, length, slice_get, ap, sym, subst, arith}
use Rattle.std.proofs.lemmas.List.Sorted.{IsPermutation-sym}
use Rattle.pin_recent.specs.declared.log.Log.{Log}
use Rattle.pin_recent.specs.Recent.{IsChanged}
use Rattle.pin_recent.specs.Sound.{bare, picked}
use Rattle.pin_recent.proofs.Columns.{length-numbers}
use Rattle.pin_recent.proofs.Permuted.{picked_permutes, stored_once, ordered_still, changed_in_order}
use Rattle.pin_recent.proofs.recent.Recent.change_values.Goals as goal

pub change_values-requires : goal.change_values-requires
change_values-requires g c =
    let s = c.self.inside.store in
    let order = picked_permutes (bare s.map.entries) s.log.places.items (stored_once s c.self.invariant.ordered) in
    c.requires (bare s.map.entries) (subst (λ r. IsPermutation r.pairs (bare s.map.entries)) c.self.view_is (IsPermutation-sym _ _ order))

pub invariant_of-self : goal.invariant_of-self
invariant_of-self g c =
    let s = c.self.inside.store in
    let t = c.change_values.new.self in
    let after = c.change_values.ensures in
    record {
      ordered = ordered_still g.C.Change.changes _ _ s t c.self.invariant.ordered after.numbers after.log after.passed;
      trim = λ place at.
          let within = c.self.invariant.trim place (ap (λ (l : Log). slice_get l.places.items 0) (sym after.log) ∙ at) in
          omega (arith, ap length after.numbers, length-numbers s.map.entries, length-numbers t.map.entries);
      counted = omega (arith, c.self.invariant.counted, ap (λ (l : Log). l.first) after.log, ap (λ (l : Log). length l.places.items) after.log);
    }

pub returns-clause-changed : goal.returns-clause-changed
returns-clause-changed g c =
    let s = c.self.inside.store in
    let t = c.change_values.new.self in
    let after = c.change_values.ensures in
    let changes = g.C.Change.changes in
    let first = c.args.change.now in
    let last = c.change_values.new.change in
    subst (λ r. IsChanged changes first last r.pairs (picked (bare t.map.entries) t.log.places.items)) c.self.view_is
    (subst (λ (l : Log). IsChanged changes first last (picked (bare s.map.entries) s.log.places.items) (picked (bare t.map.entries) l.places.items)) (sym after.log)
    (changed_in_order changes first last s.log.places.items (bare s.map.entries) (bare t.map.entries) (stored_once s c.self.invariant.ordered) after.passed))
