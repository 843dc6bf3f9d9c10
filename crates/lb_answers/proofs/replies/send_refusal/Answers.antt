use Rattle.dual_cert_write.proofs.Sends.{Sends-then}
use Rattle.lb_answers.proofs.replies.send_refusal.Goals as goal

pub returns-in-NoSuchServer : goal.returns-in-NoSuchServer
returns-in-NoSuchServer g c = rw c.in-NoSuchServer.is c.send.ensures

pub returns-in-OutOfRange : goal.returns-in-OutOfRange
returns-in-OutOfRange g c = rw c.in-OutOfRange.is c.send-in-OutOfRange.ensures

pub returns-in-NotChecked : goal.returns-in-NotChecked
returns-in-NotChecked g c = rw c.in-NotChecked.is c.send-in-NotChecked.ensures

pub returns-in-NotServing : goal.returns-in-NotServing
returns-in-NotServing g c = rw c.in-NotServing.is c.send-in-NotServing.ensures

pub returns-in-Bad : goal.returns-in-Bad
returns-in-Bad g c =
    let fault = rw (c.as_bytes.ensures.value, c.text.ensures) at c.send-in-Bad.ensures in
    rw c.in-Bad.is (Sends-then _ _ _ _ _ _ _ _ c.send-sent.ensures fault)

pub returns-in-NoServer : goal.returns-in-NoServer
returns-in-NoServer g c = rw c.in-NoServer.is c.send-in-NoServer.ensures
