use Rattle.std.proofs.Common.{slice_get}
use Rattle.lb_run_desks.specs.NewDesks.{backend_at, journal_size_at, table_at}
use Rattle.lb_run.proofs.running.run_config_keeping.Given as goal

-- the name of the desks says of each what it is
abbrev pub ghosts-run_named-B-Tables : goal.ghosts-run_named-B-Tables
ghosts-run_named-B-Tables g a = record { table_of = λ place. table_at (slice_get a.desks.items place) }

abbrev pub ghosts-run_named-B-Naming : goal.ghosts-run_named-B-Naming
ghosts-run_named-B-Naming g a = record {
  opening = λ place. backend_at (slice_get a.desks.items place);
  journal_size = λ place. journal_size_at (slice_get a.desks.items place);
}
