use Rattle.dual_cert_write.proofs.Sends.{Sends-twice}
use Rattle.lb_answers.proofs.events.send_clear.Goals as goal

pub returns : goal.returns
returns g c = Sends-twice _ _ _ _ _ _ _ _ _ _ _ c.send-sent.ensures c.send_key-sent.ensures c.send_wanted.ensures
