use Rattle.std.proofs.Common.{◌∷◌}
use Rattle.dual_cert_write.proofs.Sends.{Sends-nil, Sends-then}
use Rattle.lb_answers.specs.Names.{server_word}
use Rattle.lb_answers.proofs.Pieces.{Sends-more}
use Rattle.lb_answers.proofs.events.send_rules.Goals as goal

pub loop-server-init : goal.loop-server-init
loop-server-init g c = Sends-nil c.args.out.now c.args.sent

pub loop-server-preserved : goal.loop-server-preserved
loop-server-preserved g c =
    let piece = Sends-then _ _ _ _ _ _ _ _ c.send-sent.ensures c.send_server-sent.ensures in
    Sends-more _ _ _ _ _ _ (λ server. 32 ∷ server_word c.args.servers.now server) c.args.rules.now c.loop-server.server-index c.server-item.result c.loop-server-test.true c.server-item.is c.loop-server.invariant piece
