use Rattle.std.proofs.Common.{sym, subst}
use Rattle.lb_config.specs.Kept.{IsServers}
use Rattle.lb_desk_backend.proofs.Alike.{alike_make_a_backend}
use Rattle.lb_desk_backend.proofs.backend.backend_of.Goals as goal

pub new-requires : goal.new-requires
new-requires c =
    alike_make_a_backend c.balance.result c.all_backups.result c.table_of-table.result c.in_ok-servers.servers.items c.servers.result.now
    (subst IsServers (sym c.servers.ensures.exact) c.servers.ensures.lawful) c.in_ok-servers.ensures.same c.in_ok-servers.ensures.named
