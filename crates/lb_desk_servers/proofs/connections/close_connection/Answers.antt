use Rattle.lb_desk_servers.proofs.Connected.{close_steps}
use Rattle.lb_desk_servers.proofs.connections.close_connection.Goals as goal

pub returns-clause-steps : goal.returns-clause-steps
returns-clause-steps c farm =
    rw c.close_reply.ensures
    (close_steps farm c.args.book.now c.close.new.self c.close.result c.args.server c.close.ensures.fault c.close.ensures.ok c.close.ensures.err)
