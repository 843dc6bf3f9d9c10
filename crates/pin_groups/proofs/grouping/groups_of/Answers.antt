use Rattle.std.proofs.Common.{◌≡◌, ℕ, ◌<◌, cond, length, get_or, map, sym, ap, ◌∙◌, arith}
use Rattle.std.proofs.lemmas.List.{length-map}
use Rattle.std.proofs.Math.ListN.{get_or-map}
use Rattle.std.proofs.lemmas.List.Sums.{sum_by_more}
use Rattle.lb_types_pins.specs.declared.kind.PinKind.{PinKind}
use Rattle.lb_types_pins.specs.Kinds.{same_kind}
use Rattle.pin_set.specs.Views.{kind_of}
use Rattle.pin_groups.proofs.grouping.groups_of.Goals as goal

pub loop-pin-preserved : goal.loop-pin-preserved
loop-pin-preserved c =
    let usable = c.args.usable in
    let pins = c.args.pins.now in
    let kinds = map (kind_of usable) pins in
    let i = c.loop-pin.pin-index in
    let pin = c.pin-item.result in
    let long = length-map pins (kind_of usable) in
    let within : i < length kinds = omega arith in
    let here : get_or kinds i (kind_of usable pin) ≡ c.kind_of.result =
    get_or-map (kind_of usable) pins i pin ∙ (ap (kind_of usable) (sym c.pin-item.is) ∙ sym c.kind_of.ensures) in (
      c.in_ok-put.ensures.rising,
      λ kind.
          let f : PinKind → ℕ = λ k. cond (same_kind kind k) 1 0 in
          let last = ap f here in
          omega (arith, c.in_ok-put.ensures.counts kind, c.loop-pin.invariant.1 kind, sum_by_more f kinds i (kind_of usable pin) within),
    )
