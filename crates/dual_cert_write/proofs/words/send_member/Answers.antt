use Rattle.std.proofs.Common.{sym}
use Rattle.dual_cert_write.proofs.Sends.{Sends-then}
use Rattle.dual_cert_write.proofs.words.send_member.Goals as goal

pub returns : goal.returns
returns g c =
    let name = rw c.name_of.ensures at c.send.ensures in
    rw (sym c.if-not-has.ensures) (Sends-then _ _ _ _ _ _ _ _ c.send-sent.ensures name)
