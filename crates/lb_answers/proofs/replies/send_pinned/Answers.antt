use Rattle.dual_cert_write.proofs.Sends.{Sends-twice}
use Rattle.lb_answers.proofs.replies.send_pinned.Goals as goal

pub returns : goal.returns
returns g c =
    let word = rw c.pinned_word.ensures at c.send.ensures in
    Sends-twice _ _ _ _ _ _ _ _ _ _ _ c.send-sent.ensures c.send_server_behind-sent.ensures word
