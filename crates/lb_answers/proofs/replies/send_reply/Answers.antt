use Rattle.dual_cert_write.proofs.Sends.{Sends-then, Sends-twice}
use Rattle.lb_answers.specs.Replies.{reply_text}
use Rattle.lb_answers.proofs.replies.send_reply.Goals as goal

pub returns-in-Served : goal.returns-in-Served
unfolding reply_text
returns-in-Served g c =
    let word = rw c.served_word.ensures at c.send.ensures in
    rw c.in-Served.is (Sends-twice _ _ _ _ _ _ _ _ _ _ _ c.send-sent.ensures c.send_server-sent.ensures word)

pub returns-in-Opened : goal.returns-in-Opened
unfolding reply_text
returns-in-Opened g c = rw c.in-Opened.is (Sends-then _ _ _ _ _ _ _ _ c.send-sent-in-Opened.ensures c.send_server_behind.ensures)

pub returns-in-Closed : goal.returns-in-Closed
unfolding reply_text
returns-in-Closed g c = rw c.in-Closed.is (Sends-then _ _ _ _ _ _ _ _ c.send-sent-in-Closed.ensures c.send_server_behind-in-Closed.ensures)

pub returns-in-Sheet : goal.returns-in-Sheet
unfolding reply_text
returns-in-Sheet g c =
    let sheet = rw c.deref.ensures at c.send_sheet.ensures in
    rw c.in-Sheet.is sheet

pub returns-in-Installed : goal.returns-in-Installed
unfolding reply_text
returns-in-Installed g c = rw c.in-Installed.is (Sends-then _ _ _ _ _ _ _ _ c.send-sent-in-Installed.ensures c.send_score.ensures)
