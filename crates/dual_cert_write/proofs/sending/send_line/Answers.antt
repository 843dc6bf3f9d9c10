use Rattle.dual_cert_write.proofs.Sends.{Sends-then}
use Rattle.dual_cert_write.proofs.sending.send_line.Goals as goal

pub returns : goal.returns
returns g c = Sends-then _ _ _ _ _ _ _ _ c.send_words-sent.ensures c.send.ensures
