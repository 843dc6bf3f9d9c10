use Rattle.std.proofs.Common.{true, List, Some, sym, subst}
use Rattle.lb_desk_model.specs.declared.backend.BackendServer.{BackendServer}
use Rattle.lb_types.specs.declared.balance.Balance.TheVariants.{LeastConnections}
use Rattle.lb_desk_model.specs.Backends.{IsBackend, backend_of_parts}
use Rattle.lb_desk_rows.proofs.Named.{two_make_a_backend}
use Rattle.lb_desk_rows.proofs.backends.two.Goals as goal

pub new-requires : goal.new-requires
new-requires c =
    let table = Some c.table.result in
    let made = two_make_a_backend LeastConnections true table c.in_ok-a.a c.in_ok-b.b c.in_ok-a.ensures c.in_ok-b.ensures in
    subst (λ (servers : List BackendServer). IsBackend (backend_of_parts LeastConnections true table servers))
    (sym c.in_ok-servers.ensures.items) made
