use Rattle.std.proofs.Common.{◌≡◌, ℕ, ◌≤◌, cond, Option, sym, ap, subst, ◌∙◌, arith}
use Rattle.std.proofs.lemmas.Bool.{not-true, not-false}
use Rattle.lb_types_pins.specs.declared.kind.PinKind.{PinKind}
use Rattle.lb_types_pins.specs.Kinds.{same_place}
use Rattle.pin_set.specs.Costs.{move_cost}
use Rattle.pin_set.specs.declared.pin.Pin.{Pin}
use Rattle.pin_set.proofs.Moves.{moves_more, moves_all}
use Rattle.pin_set.proofs.scoring.spent.Goals as goal
use Rattle.pin_set.proofs.scoring.spent.Goals.{then-ne, else-ne}

abbrev costs : PinKind × Option ℕ → ℕ
costs m = move_cost m.0 m.1

pub loop-i-preserved : goal.loop-i-preserved
loop-i-preserved c =
    let pins = c.args.pins.now in
    let places = c.args.to.now in
    let pin = c.index-pins-i.result in
    let to = c.index-to-i.result in
    let step = λ (usable : ℕ). moves_more costs usable pins places c.loop-i.i pin to c.requires.same c.loop-i-test.true c.index-pins-i.is c.index-to-i.is in
    let cheap : pin.cost ≤ 1000 =
    let P : Pin → Type 0 = λ p. p.cost ≤ 1000 in
    subst P (sym c.index-pins-i.is) (c.requires.costs c.loop-i.i pin c.loop-i-test.true) in
    elim c.if-ne.branch [
      | then-ne w ↦
          let other = not-true (same_place pin.place to) (sym c.ne.ensures ∙ w.if-ne.true) in
          let one : cond (same_place pin.place to) 0 pin.cost ≡ pin.cost = ap (λ b. cond b 0 pin.cost) other in
          (λ usable. omega (arith, step usable, c.loop-i.invariant.0 usable), omega arith)
      | else-ne w ↦
          let same = not-false (same_place pin.place to) (sym c.ne.ensures ∙ w.if-ne.false) in
          let none : cond (same_place pin.place to) 0 pin.cost ≡ 0 = ap (λ b. cond b 0 pin.cost) same in
          (λ usable. omega (arith, step usable, c.loop-i.invariant.0 usable), omega arith)
    ]

pub returns : goal.returns
returns c = λ usable. c.loop-i.invariant.0 usable ∙ moves_all costs usable c.args.pins.now c.args.to.now c.loop-i.i c.loop-i-test.false
