use Rattle.dual_cert_write.proofs.Sends.{Sends-then}
use Rattle.lb_answers.proofs.tables.send_rows.Goals as goal

pub returns-in_default : goal.returns-in_default
returns-in_default g c = rw c.in_default.is c.send.ensures

pub returns : goal.returns
returns g c = rw c.in-Some.is (Sends-then _ _ _ _ _ _ _ _ c.send_heading-sent.ensures c.send_pins.ensures)
