use Rattle.std.proofs.Common.{◌≡◌, ◌≤◌, ◌⊎◌, List, length, get_or, ap, ◌∙◌, subst, arith}
use Rattle.std.specs.Prelude.{All, Any}
use Rattle.pin_file.specs.declared.file_pin.FilePin.{FilePin}
use Rattle.pin_file.specs.declared.backend_pins.BackendPins.{BackendPins}
use Rattle.pin_file_return.proofs.Oldest.{age_step}
use Rattle.pin_file_return.proofs.ages.greatest_age.Goals as goal

pub loop-backend-preserved : goal.loop-backend-preserved
loop-backend-preserved c =
    let same = c.backends-backend-items.ensures.exact in
    let long = ap (λ (l : List BackendPins). length l) same in
    age_step c.args.file.now c.loop-backend.backend-index c.backend-item.result c.loop-backend.greatest c.first_age.result c.max-greatest.result
    (omega (arith, c.loop-backend-test.true, long))
    (c.backend-item.is ∙ ap (λ (l : List BackendPins). get_or l c.loop-backend.backend-index c.backend-item.result) same)
    c.loop-backend.invariant
    (subst (λ (l : List FilePin). All (λ (p : FilePin). p.age ≤ c.first_age.result) l) c.as_slice.ensures c.first_age.ensures.above)
    (subst (λ (l : List FilePin). (c.first_age.result ≡ 0) ⊎ Any (λ (p : FilePin). p.age ≡ c.first_age.result) l) c.as_slice.ensures c.first_age.ensures.reached)
    c.max-greatest.ensures
