use Rattle.std.proofs.Common.{append_assoc}
use Rattle.dual_cert_write.proofs.Sends.{Sends-then, Sends-twice}
use Rattle.lb_answers.proofs.keys.send_address.Goals as goal

pub returns : goal.returns
returns g c =
    let first = rw (c.from.ensures, c.octets.ensures) at c.send_labelled-sent.ensures in
    let second = rw (c.from-2.ensures, c.octets.ensures) at c.send_labelled-sent-2.ensures in
    let third = rw (c.from-3.ensures, c.octets.ensures) at c.send_labelled-sent-3.ensures in
    let fourth = rw (c.from-4.ensures, c.octets.ensures) at c.send_labelled.ensures in
    let front = Sends-twice _ _ _ _ _ _ _ _ _ _ _ first second third in
    simp append_assoc (simp append_assoc at (Sends-then _ _ _ _ _ _ _ _ front fourth))
