use Rattle.dual_cert_write.proofs.Sends.{Sends-twice}
use Rattle.lb_answers.proofs.events.send_request.Goals as goal

pub returns : goal.returns
returns g c =
    let moment = rw c.as_millis.ensures at c.send_labelled-sent.ensures in
    let rules = rw c.servers.ensures at c.send_rules-sent.ensures in
    let key = Sends-twice _ _ _ _ _ _ _ _ _ _ _ moment c.send-sent.ensures c.send_asked_key-sent.ensures in
    Sends-twice _ _ _ _ _ _ _ _ _ _ _ key rules c.send_cost.ensures
