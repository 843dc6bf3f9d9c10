use Rattle.dual_cert_write.proofs.Sends.{Sends-twice}
use Rattle.lb_answers.proofs.events.send_set.Goals as goal

pub returns : goal.returns
returns g c =
    let moment = rw c.as_millis.ensures at c.send_labelled-sent.ensures in
    let key = Sends-twice _ _ _ _ _ _ _ _ _ _ _ moment c.send-sent.ensures c.send_key-sent.ensures in
    let server = Sends-twice _ _ _ _ _ _ _ _ _ _ _ key c.send-sent-2.ensures c.send_server-sent.ensures in
    Sends-twice _ _ _ _ _ _ _ _ _ _ _ server c.send_wanted-sent.ensures c.send_cost.ensures
