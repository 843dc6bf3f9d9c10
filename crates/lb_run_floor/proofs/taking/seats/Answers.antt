use Rattle.std.proofs.Common.{List, sym, subst}
use Rattle.lb_desk_backend.specs.Configured.{OpenInOrder}
use Rattle.lb_desk_model.specs.Backends.{OpenedBackend}
use Rattle.lb_run_floor.proofs.InOrder.{in_order, ok_then}
use Rattle.lb_run_floor.proofs.taking.seats.Goals as goal

pub returns-clause-desks : goal.returns-clause-desks
returns-clause-desks g c =
    let floor = c.args.floor.now in
    ok_then _ _ c.seats.result
    (λ seats are. subst (λ (l : List OpenedBackend). OpenInOrder floor.config.now.backends l) (sym are)
    (in_order floor.config.now.backends (g.D.Desks.opened floor.desks) floor.complete)) c.seats.ensures.desks
