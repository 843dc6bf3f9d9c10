use Rattle.std.proofs.Common.{ap, sym, subst, List}
use Rattle.lb_config.specs.ConfigViews.{BackendView}
use Rattle.lb_run_desks.specs.NewDesks.{Open, backend_at, journal_size_at, table_at}
use Rattle.lb_run.proofs.running.run_config_keeping.Goals as goal

pub run_named-requires-clause-names : goal.run_named-requires-clause-names
run_named-requires-clause-names g c κs within place desk at = (sym (ap table_at at), sym (ap backend_at at), sym (ap journal_size_at at))

pub run_named-requires-clause-opened : goal.run_named-requires-clause-opened
run_named-requires-clause-opened g c κs within =
    subst (λ (l : List BackendView). Open l c.in_ok-desks.desks.items) c.backends.ensures.exact c.in_ok-desks.ensures
