use Rattle.std.proofs.Common.{◌≡◌, ◌+◌, length, sym, ap, subst, ◌∙◌, arith}
use Rattle.pin_recent.specs.Sound.{bare, numbers}
use Rattle.pin_recent.proofs.Columns.{length-bare, length-numbers, bare_at, number_at, bare-set, numbers-set}
use Rattle.pin_recent.proofs.Changes.{Passing, passing_may, passing_more, passing_end, set_same}
use Rattle.pin_recent.proofs.store.Store.change_values.Goals as goal

pub pair_mut-stamped-requires : goal.pair_mut-stamped-requires
pair_mut-stamped-requires g c =
    let inv = c.loop-place.invariant in
    omega (arith, ap length inv.numbers, length-numbers c.loop-place.self.map.entries, length-numbers c.args.self.now.map.entries)

pub change-requires : goal.change-requires
change-requires g c =
    let es = c.loop-place.self.map.entries in
    let at = bare_at es c.loop-place.place _ c.pair_mut-stamped.ensures.value in
    passing_may g.C.Change.accepts g.C.Change.changes _ _ _ _ (bare es) _ c.loop-place.invariant.passing at

pub loop-place-preserved : goal.loop-place-preserved
loop-place-preserved g c =
    let es = c.loop-place.self.map.entries in
    let place = c.loop-place.place in
    let inv = c.loop-place.invariant in
    let value = c.pair_mut-stamped.ensures.value in
    let at = bare_at es place _ value in
    let more = passing_more g.C.Change.accepts g.C.Change.changes _ _ _ _ (bare es) _ inv.passing at c.change.new.value c.change.new.self c.change.ensures in
    record {
      passing = subst (λ now. Passing g.C.Change.accepts g.C.Change.changes c.args.change.now (bare c.args.self.now.map.entries) (place + 1) c.change.new.self now)
          (sym (bare-set es place _)) more;
      numbers = numbers-set es place _ ∙ set_same (numbers es) place _ (number_at es place _ value) ∙ inv.numbers;
      log = inv.log;
    }

pub returns-clause-passed : goal.returns-clause-passed
returns-clause-passed g c =
    let old = c.args.self.now.map.entries in
    let now = c.loop-place.self.map.entries in
    let inv = c.loop-place.invariant in
    let whole : length (bare old) ≡ c.loop-place.place = omega (arith, length-bare old, c.len-place-end.ensures.len, c.loop-place-test.false, c.loop-place.auto.place-end) in
    passing_end g.C.Change.accepts g.C.Change.changes _ _ _ _ (bare now) inv.passing whole
