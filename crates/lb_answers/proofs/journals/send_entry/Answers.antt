use Rattle.dual_cert_write.proofs.Sends.{Sends-twice, Sends-then}
use Rattle.lb_answers.specs.Journals.{entry_line}
use Rattle.lb_answers.proofs.journals.send_entry.Goals as goal

pub returns : goal.returns
unfolding entry_line
returns g c =
    let number = rw (c.as_bytes.ensures.value, c.format.ensures.text) at c.send-sent.ensures in
    let reply = rw c.asked_server-asked.ensures at c.send_reply-sent.ensures in
    let event = Sends-twice _ _ _ _ _ _ _ _ _ _ _ number c.send-sent-2.ensures c.send_event-sent.ensures in
    let answered = Sends-twice _ _ _ _ _ _ _ _ _ _ _ event c.send-sent-3.ensures reply in
    Sends-then _ _ _ _ _ _ _ _ answered c.send.ensures
