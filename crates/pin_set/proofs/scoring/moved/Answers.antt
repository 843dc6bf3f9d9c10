use Rattle.std.proofs.Common.{ℕ, cond, Option, sym, ap, ◌∙◌, arith}
use Rattle.lb_types_pins.specs.declared.kind.PinKind.{PinKind}
use Rattle.pin_set.specs.Costs.{is_moved}
use Rattle.pin_set.proofs.Moves.{moves_more, moves_all}
use Rattle.pin_set.proofs.scoring.moved.Goals as goal
use Rattle.pin_set.proofs.scoring.moved.Goals.{then-ne, else-ne}

abbrev counted : PinKind × Option ℕ → ℕ
counted m = cond (is_moved m.0 m.1) 1 0

pub loop-i-preserved : goal.loop-i-preserved
loop-i-preserved c =
    let pins = c.args.pins.now in
    let places = c.args.places.now in
    let pin = c.index-pins-i.result in
    let to = c.index-places-i.result in
    let step = λ (usable : ℕ). moves_more counted usable pins places c.loop-i.i pin to c.requires c.loop-i-test.true c.index-pins-i.is c.index-places-i.is in
    elim c.if-ne.branch [
      | then-ne w ↦
          let one = λ (usable : ℕ). ap (λ b. cond {A = ℕ} b 1 0) (sym c.ne.ensures ∙ w.if-ne.true) in
          (λ usable. omega (arith, step usable, one usable, c.loop-i.invariant.0 usable), omega arith)
      | else-ne w ↦
          let none = λ (usable : ℕ). ap (λ b. cond {A = ℕ} b 1 0) (sym c.ne.ensures ∙ w.if-ne.false) in
          (λ usable. omega (arith, step usable, none usable, c.loop-i.invariant.0 usable), omega arith)
    ]

pub returns : goal.returns
returns c = λ usable. c.loop-i.invariant.0 usable ∙ moves_all counted usable c.args.pins.now c.args.places.now c.loop-i.i c.loop-i-test.false
