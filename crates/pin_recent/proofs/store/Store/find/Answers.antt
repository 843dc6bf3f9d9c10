use Rattle.std.proofs.Common.{sym, ap, ◌∙◌}
use Rattle.std.specs.Option.{option_copied}
use Rattle.pin_recent.proofs.Found.{found_at, absent_from}
use Rattle.pin_recent.proofs.store.Store.find.Goals as goal

pub returns-in_err-place : goal.returns-in_err-place
returns-in_err-place g c =
    let s = c.args.self.now in
    ap option_copied c.from_residual.ensures ∙ sym (absent_from (g.K.PartialEq.eq c.args.key.now) s.map.entries s.log.places.items c.in_err-place.ensures.found)

pub returns : goal.returns
returns g c =
    let s = c.args.self.now in
    found_at g.met.K.Eq.laws c.args.key.now s.map.entries s.log.first s.log.places.items c.in_ok-place.place c.index.result.now
    c.requires.ordered.tied c.in_ok-place.ensures.unique c.in_ok-place.ensures.index c.index.ensures
