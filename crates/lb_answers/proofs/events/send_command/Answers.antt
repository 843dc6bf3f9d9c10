use Rattle.dual_cert_write.proofs.Sends.{Sends-twice}
use Rattle.lb_answers.proofs.events.send_command.Goals as goal

pub returns : goal.returns
returns g c =
    let front = rw c.setting_front.ensures at c.send-sent.ensures in
    let backend = rw c.as_bytes.ensures.exact at c.send-sent-2.ensures in
    let named = Sends-twice _ _ _ _ _ _ _ _ _ _ _ front backend c.send-sent-3.ensures in
    Sends-twice _ _ _ _ _ _ _ _ _ _ _ named c.send_server-sent.ensures c.send_setting.ensures
