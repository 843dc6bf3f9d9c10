use Rattle.dual_cert_write.proofs.Sends.{Sends-nil, Sends-then}
use Rattle.lb_answers.proofs.names.send_server_behind.Goals as goal

pub returns-in_default : goal.returns-in_default
returns-in_default g c = rw c.in_default.is (Sends-nil c.args.out.now c.args.sent)

pub returns : goal.returns
returns g c = rw c.in-Some.is (Sends-then _ _ _ _ _ _ _ _ c.send-sent.ensures c.send_server.ensures)
