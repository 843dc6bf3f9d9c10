use Rattle.std.proofs.Common.{false, List, sym, subst}
use Rattle.lb_desk_model.specs.declared.backend.BackendServer.{BackendServer}
use Rattle.lb_types.specs.declared.balance.Balance.TheVariants.{RoundRobin}
use Rattle.lb_desk_model.specs.Backends.{IsBackend, backend_of_parts}
use Rattle.lb_desk_shared_rows.proofs.Named.{two_make_a_backend}
use Rattle.lb_desk_shared_rows.proofs.farms.two_servers.Goals as goal

pub new-requires : goal.new-requires
new-requires c =
    let made = two_make_a_backend RoundRobin false c.table-table.result c.in_ok-a.a c.in_ok-b.b c.in_ok-a.ensures c.in_ok-b.ensures in
    subst (λ (servers : List BackendServer). IsBackend (backend_of_parts RoundRobin false c.table-table.result servers))
    (sym c.in_ok-servers.ensures.items) made
