use Rattle.dual_cert_write.proofs.Sends.{Sends-then, Sends-twice}
use Rattle.lb_answers.specs.Events.{event_text}
use Rattle.lb_answers.proofs.events.send_event.Goals as goal

pub returns-in-Open : goal.returns-in-Open
unfolding event_text
returns-in-Open g c = rw c.in-Open.is (Sends-then _ _ _ _ _ _ _ _ c.send-sent.ensures c.send_server.ensures)

pub returns-in-Close : goal.returns-in-Close
unfolding event_text
returns-in-Close g c = rw c.in-Close.is (Sends-then _ _ _ _ _ _ _ _ c.send-sent-in-Close.ensures c.send_server-in-Close.ensures)

pub returns-in-Check : goal.returns-in-Check
unfolding event_text
returns-in-Check g c =
    let word = rw c.result_word.ensures at c.send.ensures in
    rw c.in-Check.is (Sends-twice _ _ _ _ _ _ _ _ _ _ _ c.send-sent-in-Check.ensures c.send_server-sent.ensures word)

pub returns-in-Install : goal.returns-in-Install
unfolding event_text
returns-in-Install g c =
    let version = rw (c.version.ensures, c.deref.ensures) at c.send_labelled-in-Install.ensures in
    rw c.in-Install.is version
