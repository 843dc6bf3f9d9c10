-- Sums over the pins of a view and the places that they go to, one pin after another.
use Rattle.std.proofs.Common.{◌≡◌, ℕ, ◌+◌, ◌<◌, ◌≤◌, List, Option, map, length, get_or, take, refl, ap, ◌∙◌, arith}
use Rattle.std.specs.List.{sum_by, zip}
use Rattle.std.proofs.lemmas.List.{take_all, length-map}
use Rattle.std.proofs.Math.ListN.{get_or-map}
use Rattle.std.proofs.lemmas.List.Sums.{sum_by_more}
use Rattle.std.proofs.lemmas.Slice.Zip.{get_or-zip, length-zip}
use Rattle.lb_types_pins.specs.declared.kind.PinKind.{PinKind}
use Rattle.pin_set.specs.declared.pin.Pin.{Pin}
use Rattle.pin_set.specs.Views.{kind_of}

-- each pin's kind beside the place that it goes to
abbrev pub moves_of : ℕ → List Pin → List (Option ℕ) → List (PinKind × Option ℕ)
moves_of usable pins places = zip (map (kind_of usable) pins) places

-- one pin more, read at its place in the lists
pub moves_more : (f : PinKind × Option ℕ → ℕ) (usable : ℕ) (pins : List Pin) (places : List (Option ℕ)) (i : ℕ) (pin : Pin) (to : Option ℕ)
    → length places ≡ length pins → i < length pins → pin ≡ get_or pins i pin → to ≡ get_or places i to
    → sum_by f (take (i + 1) (moves_of usable pins places)) ≡ sum_by f (take i (moves_of usable pins places)) + f (kind_of usable pin, to)
moves_more f usable pins places i pin to whole below is_pin is_to =
    let kinds = length-map pins (kind_of usable) in
    let pairs = length-zip (map (kind_of usable) pins) places in
    let d : PinKind × Option ℕ = (kind_of usable pin, to) in
    let within : i < length (map (kind_of usable) pins) = omega arith in
    let in_places : i < length places = omega arith in
    let here : get_or (moves_of usable pins places) i d ≡ (kind_of usable pin, to) =
    get_or-zip (map (kind_of usable) pins) places i d within in_places
    ∙ rw (get_or-map (kind_of usable) pins i pin, ← is_pin, ← is_to) refl in
    sum_by_more f (moves_of usable pins places) i d (omega arith) ∙ ap (λ m. sum_by f (take i (moves_of usable pins places)) + f m) here

-- all pins
pub moves_all : (f : PinKind × Option ℕ → ℕ) (usable : ℕ) (pins : List Pin) (places : List (Option ℕ)) (n : ℕ)
    → length pins ≤ n → sum_by f (take n (moves_of usable pins places)) ≡ sum_by f (moves_of usable pins places)
moves_all f usable pins places n all =
    ap (sum_by f) (take_all n (moves_of usable pins places) (omega (arith, length-zip (map (kind_of usable) pins) places, length-map pins (kind_of usable))))
