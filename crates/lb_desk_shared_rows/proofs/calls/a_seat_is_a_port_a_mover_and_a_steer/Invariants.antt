use Rattle.lb_desk_shared_rows.specs.declared.desks.TheConstants.{JOURNAL}
use Rattle.lb_desk_shared_rows.proofs.calls.a_seat_is_a_port_a_mover_and_a_steer.Given as goal

abbrev pub ghosts-calls-N-Tables : goal.ghosts-calls-N-Tables
ghosts-calls-N-Tables g a = record { table_of = λ _. a.opened }

abbrev pub ghosts-calls-N-Naming : goal.ghosts-calls-N-Naming
ghosts-calls-N-Naming g a = record { opening = λ _. a.backend.now; journal_size = λ _. JOURNAL }
