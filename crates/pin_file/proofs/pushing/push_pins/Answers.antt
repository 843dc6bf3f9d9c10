use Rattle.pin_file.specs.Spellings.{pin_line}
use Rattle.pin_file.proofs.Pushes.{none_pushed, line_pushed}
use Rattle.pin_file.proofs.pushing.push_pins.Goals as goal

pub loop-pin-init : goal.loop-pin-init
loop-pin-init c = none_pushed c.args.text.now.items

pub loop-pin-preserved : goal.loop-pin-preserved
loop-pin-preserved c =
    line_pushed c.args.text.now.items c.loop-pin.text.items _ (λ p. pin_line p) c.args.pins.now c.loop-pin.pin-index c.pin-item.result c.loop-pin-test.true c.pin-item.is c.loop-pin.invariant c.in_ok-push_pin.ensures
