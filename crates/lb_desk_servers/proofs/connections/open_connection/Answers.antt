use Rattle.std.proofs.Common.{◌≤◌, length}
use Rattle.lb_desk_servers.proofs.Connected.{open_steps}
use Rattle.lb_desk_servers.proofs.connections.open_connection.Goals as goal

pub returns-clause-steps : goal.returns-clause-steps
returns-clause-steps c =
    let farm = c.args.farm.now in
    let book = c.args.book.now in
    rw c.open_reply.ensures
    (open_steps farm book c.open.new.self c.open.result c.args.server
    (λ (many : length farm.servers ≤ length book.connections). c.maxconn_alone_is_the_limit.ensures book farm c.args.server many c.requires)
    c.open.ensures.fault c.open.ensures.ok c.open.ensures.err)
