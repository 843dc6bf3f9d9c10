use Rattle.std.proofs.Common.{sym, ap, ◌∙◌}
use Rattle.std.specs.Map.{lookup}
use Rattle.pin_recent.specs.Recent.{touched}
use Rattle.pin_recent.specs.Sound.{bare}
use Rattle.pin_recent.proofs.Picked.{not_found, not_touched}
use Rattle.pin_recent.proofs.recent.Recent.touch.Goals as goal

pub returns-in_err-place-clause-old : goal.returns-in_err-place-clause-old
returns-in_err-place-clause-old g c =
    let s = c.self.inside.store in
    let test = g.K.PartialEq.eq c.args.key.now in
    c.from_residual.ensures ∙ sym (ap (λ r. lookup test r.pairs) (sym c.self.view_is) ∙ not_found test (bare s.map.entries) s.log.places.items c.in_err-place.ensures.absent)

pub returns-in_err-place-clause-touched : goal.returns-in_err-place-clause-touched
returns-in_err-place-clause-touched g c =
    let s = c.self.inside.store in
    let test = g.K.PartialEq.eq c.args.key.now in
    sym (ap (λ r. touched test c.args.value r.pairs) (sym c.self.view_is) ∙ not_touched test (bare s.map.entries) s.log.places.items c.args.value c.in_err-place.ensures.absent ∙ ap (λ r. r.pairs) c.self.view_is)
