use Rattle.std.proofs.Common.{sym, ◌∙◌}
use Rattle.lb_types.specs.Servers.{has}
use Rattle.lb_desk_pick.proofs.Lists.{none_more, first_at}
use Rattle.lb_desk_pick.proofs.servers.first_in.Goals as goal

pub returns-then-has : goal.returns-then-has
returns-then-has c =
    first_at (has c.args.set) c.args.servers.now c.loop-server.server-index c.server-item.result c.loop-server-test.true c.server-item.is c.loop-server.invariant (sym c.has.ensures ∙ c.if-has.true)

pub loop-server-preserved : goal.loop-server-preserved
loop-server-preserved c =
    none_more (has c.args.set) c.args.servers.now c.loop-server.server-index c.server-item.result c.loop-server-test.true c.server-item.is c.loop-server.invariant (sym c.has.ensures ∙ c.if-has.false)
