use Rattle.pin_file.specs.Spellings.{backend_lines}
use Rattle.pin_file.proofs.Pushes.{none_pushed, backend_pushed, lines_pushed}
use Rattle.pin_file.proofs.pushing.push_backends.Goals as goal

pub loop-backend-init : goal.loop-backend-init
loop-backend-init c = none_pushed c.args.text.now.items

pub loop-backend-preserved : goal.loop-backend-preserved
loop-backend-preserved c =
    let pins = rw c.as_slice.ensures at c.in_ok-push_pins.ensures in
    lines_pushed c.args.text.now.items c.loop-backend.text.items _ (λ b. backend_lines b) c.args.backends.now c.loop-backend.backend-index c.backend-item.result c.loop-backend-test.true c.backend-item.is c.loop-backend.invariant
    (backend_pushed c.loop-backend.text.items _ _ c.backend-item.result c.in_ok-push_backend.ensures pins)
