use Rattle.dual_cert_write.proofs.Sends.{Sends-then}
use Rattle.lb_answers.proofs.names.send_labelled.Goals as goal

pub returns : goal.returns
returns g c =
    let number = rw (c.as_bytes.ensures.value, c.format.ensures.text) at c.send.ensures in
    Sends-then _ _ _ _ _ _ _ _ c.send-sent.ensures number
