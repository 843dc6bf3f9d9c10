use Rattle.std.proofs.Common.{arith, sym, ◌∙◌}
use Rattle.lb_config_values.proofs.ServerSteps.{server_more, server_end}
use Rattle.lb_config_values.proofs.servers.read_servers.Goals as goal

pub loop-numbered-preserved : goal.loop-numbered-preserved
loop-numbered-preserved c =
    let l = c.loop-numbered in
    let here = server_more c.args.max_pins c.args.check.now l.servers.items l.options c.args.settings.now l.numbered-index c.numbered-item.result (omega arith) c.numbered-item.is in
    rw (c.in_ok-push_server.ensures, c.with_default-options.ensures) (sym here ∙ l.invariant)

pub returns : goal.returns
returns c =
    let l = c.loop-numbered in
    sym (server_end c.args.max_pins c.args.check.now l.servers.items l.options c.args.settings.now l.numbered-index (omega arith)) ∙ l.invariant
