use Rattle.dual_cert_write.proofs.Sends.{Sends-twice}
use Rattle.lb_answers.specs.Tables.{pin_line}
use Rattle.lb_answers.proofs.tables.send_pin.Goals as goal

pub returns : goal.returns
unfolding pin_line
returns g c =
    let last_use = rw c.as_millis.ensures at c.send_labelled-sent.ensures in
    let keyed = Sends-twice _ _ _ _ _ _ _ _ _ _ _ c.send-sent.ensures c.send_key-sent.ensures c.send-sent-2.ensures in
    let wanted = Sends-twice _ _ _ _ _ _ _ _ _ _ _ keyed c.send_want-sent.ensures c.send-sent-3.ensures in
    let used = Sends-twice _ _ _ _ _ _ _ _ _ _ _ wanted c.send_place-sent.ensures last_use in
    Sends-twice _ _ _ _ _ _ _ _ _ _ _ used c.send_cost-sent.ensures c.send.ensures
