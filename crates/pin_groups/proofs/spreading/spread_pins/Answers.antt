use Rattle.std.proofs.Common.{◌≡◌, ◌-◌, ◌<◌, ◌≤◌, List, [], ◌∷◌, ◌++◌, length, get_or, set, map, refl, sym, ap, subst, ◌∙◌, arith}
use Rattle.std.proofs.lemmas.List.{length-map, get_or_default, with_items_is}
use Rattle.std.proofs.Math.ListN.{get_or-map}
use Rattle.std.proofs.Common.{ℕ}
use Rattle.lb_types_pins.specs.declared.kind.Row.{Row}
use Rattle.pin_set.specs.Views.{kind_of}
use Rattle.pin_groups.specs.Leftovers.{AreUsedUp}
use Rattle.pin_groups.proofs.Leftovers.{length_more, used_up-start, used_up-less, spread_start, next_left, spread_step, spread_end}
use Rattle.pin_groups.proofs.spreading.spread_pins.Goals as goal

pub loop-pin-init : goal.loop-pin-init
loop-pin-init c =
    let rows = c.args.rows.now in
    let counts = map (λ (r : Row). r.count) rows in
    let marks = subst (λ (marks : List ℕ). AreUsedUp counts marks) (sym (c.in_ok-used_to.ensures.items_if_clones_equal (λ y same. same)))
    (used_up-start counts (length rows) (length-map rows (λ (r : Row). r.count))) in
    rw (c.in_ok-left.ensures, c.in_ok-places.ensures.items)
    (refl, spread_start rows (map (kind_of c.args.usable) c.args.pins.now) c.requires.counts, marks)

pub row_for-at-requires-clause-some : goal.row_for-at-requires-clause-some
row_for-at-requires-clause-some c =
    let usable = c.args.usable in
    let pins = c.args.pins.now in
    let kinds = map (kind_of usable) pins in
    let kind = c.kind_of.result in
    let pin = c.pin-item.result in
    let i = c.loop-pin.pin-index in
    let long = length-map pins (kind_of usable) in
    let within : i < length kinds = omega arith in
    let is_kind : get_or kinds i (kind_of usable pin) ≡ kind =
    get_or-map (kind_of usable) pins i pin ∙ (ap (kind_of usable) (sym c.pin-item.is) ∙ sym c.kind_of.ensures) in
    let here : get_or kinds i kind ≡ kind = get_or_default kinds i kind (kind_of usable pin) within ∙ is_kind in
    rw c.deref.ensures.value
    (next_left c.args.rows.now kinds c.loop-pin.left.items c.loop-pin.places.items kind c.loop-pin.invariant.1
    (rw c.loop-pin.invariant.0 within) (rw c.loop-pin.invariant.0 here))

pub loop-pin-preserved : goal.loop-pin-preserved
loop-pin-preserved c =
    let usable = c.args.usable in
    let pins = c.args.pins.now in
    let rows = c.args.rows.now in
    let kinds = map (kind_of usable) pins in
    let kind = c.kind_of.result in
    let pin = c.pin-item.result in
    let row = c.index-rows-at.result in
    let at = c.row_for-at.result in
    let left = c.loop-pin.left.items in
    let i = c.loop-pin.pin-index in
    let long = length-map pins (kind_of usable) in
    let within : i < length kinds = omega arith in
    let is_kind : get_or kinds i (kind_of usable pin) ≡ kind =
    get_or-map (kind_of usable) pins i pin ∙ (ap (kind_of usable) (sym c.pin-item.is) ∙ sym c.kind_of.ensures) in
    let here : get_or kinds i kind ≡ kind = get_or_default kinds i kind (kind_of usable pin) within ∙ is_kind in
    let same : row.kind ≡ kind = ap (λ (r : Row). r.kind) c.index-rows-at.is ∙ c.row_for-at.ensures.kind row in
    let n = c.index_mut.result.now in
    let inside : at < length left = omega (arith, c.loop-pin.invariant.1.whole, c.row_for-at.ensures.within) in
    let Some : List ℕ → Type 0 = λ xs. 1 ≤ get_or xs at 0 in
    let some_left : 1 ≤ get_or left at 0 = subst Some c.deref.ensures.value c.row_for-at.ensures.some in
    let some : 1 ≤ n = omega (arith, c.index_mut.ensures.value, get_or_default left at n 0 inside) in
    let step = spread_step rows kinds left c.loop-pin.places.items kind row at n c.loop-pin.invariant.1
    (rw c.loop-pin.invariant.0 within) (rw c.loop-pin.invariant.0 here) c.row_for-at.ensures.within (sym c.index-rows-at.is) same c.index_mut.ensures.value some in
    let read : c.push.new.self.items ≡ c.loop-pin.places.items ++ (get_or rows at row).new_place ∷ [] = c.push.ensures.items ∙ rw c.in_ok-push.was refl in
    let items : c.push.new.self.items ≡ c.loop-pin.places.items ++ row.new_place ∷ [] =
    read ∙ ap (λ (r : Row). c.loop-pin.places.items ++ r.new_place ∷ []) (sym c.index-rows-at.is) in
    let used_up = subst (λ (xs : List ℕ). AreUsedUp xs c.row_for-at.new.used_to) c.deref.ensures.value c.row_for-at.ensures.used_up in
    let back = with_items_is c.loop-pin.used_to c.row_for-at.new.used_to
    (omega (arith, used_up.whole, c.loop-pin.invariant.2.whole, c.loop-pin.used_to.ok.0)) in
    let marks = subst (λ (xs : List ℕ). AreUsedUp (set left at (n - 1)) xs) (sym back)
    (used_up-less left c.row_for-at.new.used_to at (n - 1) used_up some_left) in
    rw items (omega (arith, c.loop-pin.invariant.0, length_more c.loop-pin.places.items row.new_place), step, marks)

pub returns : goal.returns
returns c =
    let kinds = map (kind_of c.args.usable) c.args.pins.now in
    let long = length-map c.args.pins.now (kind_of c.args.usable) in
    spread_end c.args.rows.now kinds c.loop-pin.left.items c.loop-pin.places.items c.loop-pin.invariant.1
    (omega (arith, c.loop-pin.invariant.0))
