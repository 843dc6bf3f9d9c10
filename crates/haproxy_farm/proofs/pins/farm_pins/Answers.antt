use Rattle.std.proofs.Common.{◌≡◌, ◌<◌, [], ◌∷◌, ◌++◌, List, length, get_or, take, refl, sym, ap, ◌∙◌, arith, Option, ℕ}
use Rattle.std.proofs.lemmas.List.{take_more, take_all}
use Rattle.pin_set.specs.declared.pin.Pin.{Pin}
use Rattle.haproxy_farm.specs.Farms.{farm_pin, farm_pins}
use Rattle.haproxy_farm.proofs.Farms.{length-farm_pins, get_or-farm_pins}
use Rattle.haproxy_farm.proofs.pins.farm_pins.Goals as goal

pub loop-i-preserved : goal.loop-i-preserved
loop-i-preserved c =
    let places = c.args.places.now in
    let all = farm_pins places in
    let i = c.loop-i.i in
    let one = c.farm_pin-pin.result in
    let long = length-farm_pins places in
    let within : i < length all = omega arith in
    let here : get_or all i one ≡ one =
    get_or-farm_pins places i one c.index-places-i.result c.loop-i-test.true
    ∙ (ap (λ (p : Option ℕ). farm_pin (i, p)) (sym c.index-places-i.is) ∙ sym c.farm_pin-pin.ensures) in
    let items : c.push.new.self.items ≡ c.loop-i.pins.items ++ one ∷ [] = c.push.ensures.items ∙ rw c.in_ok-push.was refl in
    items
    ∙ (ap (λ (xs : List Pin). xs ++ one ∷ []) c.loop-i.invariant
    ∙ (ap (λ (p : Pin). take i all ++ p ∷ []) (sym here) ∙ sym (take_more all i one within)))

pub returns : goal.returns
returns c =
    c.loop-i.invariant ∙ take_all c.loop-i.i (farm_pins c.args.places.now) (omega (arith, length-farm_pins c.args.places.now))
