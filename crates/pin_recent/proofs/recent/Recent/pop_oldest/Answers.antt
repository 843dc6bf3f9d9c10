use Rattle.std.proofs.Common.{◌≡◌, length, ap, arith}
use Rattle.pin_recent.specs.Sound.{bare, stored}
use Rattle.pin_recent.proofs.Picked.{length-picked_le}
use Rattle.pin_recent.proofs.recent.Recent.pop_oldest.Goals as goal

pub pop-requires-clause-fits : goal.pop-requires-clause-fits
pop-requires-clause-fits g c =
    let s = c.self.inside.store in
    let inv = c.self.invariant in
    let all : length (stored s) ≡ length s.map.entries = inv.ordered.all in
    omega (arith, all, inv.counted, c.requires, c.len.ensures, ap (λ r. r.uses) c.self.view_is, length-picked_le (bare s.map.entries) s.log.places.items)
