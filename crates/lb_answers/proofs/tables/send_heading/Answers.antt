use Rattle.dual_cert_write.proofs.Sends.{Sends-twice}
use Rattle.lb_answers.specs.Tables.{table_heading}
use Rattle.lb_answers.proofs.tables.send_heading.Goals as goal

pub returns : goal.returns
unfolding table_heading
returns g c =
    let backend = rw c.as_bytes.ensures.exact at c.send-sent-2.ensures in
    let size = rw c.from.ensures at c.send_labelled-sent.ensures in
    let key_type = rw c.type_word.ensures at c.send-sent-4.ensures in
    let named = Sends-twice _ _ _ _ _ _ _ _ _ _ _ c.send-sent.ensures backend c.send-sent-3.ensures in
    let sized = Sends-twice _ _ _ _ _ _ _ _ _ _ _ named key_type size in
    Sends-twice _ _ _ _ _ _ _ _ _ _ _ sized c.send_labelled-sent-2.ensures c.send.ensures
