use Rattle.std.proofs.Common.{◌≡◌, ℕ, ◌+◌, ◌-◌, suc, length, drop, sym, subst, ◌∙◌, arith}
use Rattle.pin_recent.specs.Sound.{bare, picked, stored}
use Rattle.pin_recent.proofs.Columns.{length-bare}
use Rattle.pin_recent.proofs.Picked.{front_there}
use Rattle.pin_recent.proofs.Turn.{turns_on}
use Rattle.pin_recent.proofs.store.Store.make_room.Goals as goal

pub loop-i-preserved : goal.loop-i-preserved
loop-i-preserved g c =
    let old = c.args.self.now in
    let s = c.loop-i.self in
    let inv = c.loop-i.invariant in
    let n = length old.log.places.items in
    let step : n - c.loop-i.i ≡ suc (n - (c.loop-i.i + 1)) = omega (arith, c.len-count.ensures) in
    record {
      tied = c.turn.ensures.tied;
      first = omega (arith, c.turn.ensures.first, inv.first);
      capacity = c.turn.ensures.capacity ∙ inv.capacity;
      pairs = c.turn.ensures.pairs ∙ inv.pairs;
      len = c.turn.ensures.len ∙ inv.len;
      turning = turns_on (bare old.map.entries) (stored old) (length s.map.entries) s.log.places.items c.turn.new.self.log.places.items (n - c.loop-i.i) (n - (c.loop-i.i + 1))
          (inv.len ∙ sym (length-bare old.map.entries)) c.turn.ensures.places step inv.turning;
    }

pub returns-clause-trim : goal.returns-clause-trim
returns-clause-trim g c = λ place at.
    let old = c.args.self.now in
    let s = c.loop-i.self in
    let inv = c.loop-i.invariant in
    let none : length old.log.places.items - c.loop-i.i ≡ 0 = omega (arith, c.len-count.ensures) in
    let closed = subst (λ (r : ℕ). length (picked (bare old.map.entries) (drop r s.log.places.items)) ≡ length (drop r s.log.places.items)) none inv.turning.closed in
    omega (arith, front_there (bare old.map.entries) s.log.places.items place closed at, length-bare old.map.entries, inv.len)
