use Rattle.dual_cert_write.proofs.Sends.{Sends-then}
use Rattle.lb_answers.proofs.replies.send_sheet.Goals as goal

pub returns : goal.returns
returns g c =
    let version = rw c.version.ensures at c.send_labelled-sent.ensures in
    let pins = rw c.pins_in.ensures at c.send_labelled.ensures in
    Sends-then _ _ _ _ _ _ _ _ version pins
