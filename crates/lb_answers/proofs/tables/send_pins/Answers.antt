use Rattle.dual_cert_write.proofs.Sends.{Sends-nil}
use Rattle.lb_answers.specs.Tables.{pin_line}
use Rattle.lb_answers.proofs.Pieces.{Sends-more}
use Rattle.lb_answers.proofs.tables.send_pins.Goals as goal

pub loop-pin-init : goal.loop-pin-init
loop-pin-init g c = Sends-nil c.args.out.now c.args.sent

pub loop-pin-preserved : goal.loop-pin-preserved
loop-pin-preserved g c =
    Sends-more _ _ _ _ _ _ (λ p. pin_line c.args.servers.now p) c.args.pins.now c.loop-pin.pin-index c.pin-item.result c.loop-pin-test.true c.pin-item.is c.loop-pin.invariant c.send_pin-sent.ensures
