use Rattle.std.proofs.Common.{◌≡◌, length, sym, ap, ◌∙◌, arith}
use Rattle.std.specs.Map.{lookup, remove_entry}
use Rattle.pin_recent.specs.Sound.{bare, stored}
use Rattle.pin_recent.proofs.Picked.{length-picked_le, not_found, not_removed}
use Rattle.pin_recent.proofs.recent.Recent.take_out.Goals as goal

pub take_at-requires-clause-fits : goal.take_at-requires-clause-fits
take_at-requires-clause-fits g c =
    let s = c.self.inside.store in
    let inv = c.self.invariant in
    let all : length (stored s) ≡ length s.map.entries = inv.ordered.all in
    omega (arith, all, inv.counted, c.requires, c.in_ok-place.ensures.within, ap (λ r. r.uses) c.self.view_is, length-picked_le (bare s.map.entries) s.log.places.items)

pub returns-in_err-place-clause-old : goal.returns-in_err-place-clause-old
returns-in_err-place-clause-old g c =
    let s = c.self.inside.store in
    let test = g.K.PartialEq.eq c.args.key.now in
    c.from_residual.ensures ∙ sym (ap (λ r. lookup test r.pairs) (sym c.self.view_is) ∙ not_found test (bare s.map.entries) s.log.places.items c.in_err-place.ensures.absent)

pub returns-in_err-place-clause-left : goal.returns-in_err-place-clause-left
returns-in_err-place-clause-left g c =
    let s = c.self.inside.store in
    let test = g.K.PartialEq.eq c.args.key.now in
    sym (ap (λ r. remove_entry test r.pairs) (sym c.self.view_is) ∙ not_removed test (bare s.map.entries) s.log.places.items c.in_err-place.ensures.absent ∙ ap (λ r. r.pairs) c.self.view_is)
