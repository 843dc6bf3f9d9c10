use Rattle.dual_cert_text.specs.Spellings.{server_line}
use Rattle.dual_cert_write.proofs.Sends.{Sends-no_lines, Sends-line}
use Rattle.dual_cert_write.proofs.plan_text.send_servers.Goals as goal

pub loop-server-init : goal.loop-server-init
loop-server-init g c = Sends-no_lines c.args.out.now c.args.sent

pub loop-server-preserved : goal.loop-server-preserved
loop-server-preserved g c =
    Sends-line _ _ _ _ _ _ (λ server. server_line server) c.args.servers.now c.loop-server.server-index c.server-item.result c.loop-server-test.true c.server-item.is c.loop-server.invariant c.send_server-sent.ensures
