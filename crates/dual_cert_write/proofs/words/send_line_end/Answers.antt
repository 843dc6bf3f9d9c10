use Rattle.dual_cert_write.proofs.Lines.{line_end_parts}
use Rattle.dual_cert_write.proofs.Sends.{Sends-then, Sends-twice}
use Rattle.dual_cert_write.proofs.words.send_line_end.Goals as goal

pub returns : goal.returns
returns g c =
    rw line_end_parts (Sends-then _ _ _ _ _ _ _ _ (Sends-twice _ _ _ _ _ _ _ _ _ _ _ c.send-sent.ensures c.send_set-sent.ensures c.send_cost-sent.ensures) c.send.ensures)
