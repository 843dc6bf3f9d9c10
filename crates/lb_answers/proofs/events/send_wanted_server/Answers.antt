use Rattle.std.proofs.Common.{sym}
use Rattle.dual_cert_write.proofs.Sends.{Sends-then}
use Rattle.lb_answers.proofs.events.send_wanted_server.Goals as goal

pub returns : goal.returns
returns g c = rw (sym c.if-not-has.ensures) (Sends-then _ _ _ _ _ _ _ _ c.send-sent.ensures c.send_server.ensures)
