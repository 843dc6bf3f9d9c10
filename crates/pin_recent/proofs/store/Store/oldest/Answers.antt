use Rattle.pin_recent.specs.Sound.{bare}
use Rattle.pin_recent.proofs.Push.{mapped_none, front_none, front_is}
use Rattle.pin_recent.proofs.store.Store.oldest.Goals as goal

pub returns-in_err-place : goal.returns-in_err-place
returns-in_err-place g c =
    let s = c.args.self.now in
    mapped_none _ c.from_residual.result _ c.from_residual.ensures (front_none (bare s.map.entries) s.log.places.items c.in_err-place.ensures)

pub returns : goal.returns
returns g c =
    let s = c.args.self.now in
    front_is s.map.entries s.log.places.items c.in_ok-place.place c.in_ok-key.key.now c.in_ok-key.stamped.now c.in_ok-place.ensures c.in_ok-key.ensures.entry
