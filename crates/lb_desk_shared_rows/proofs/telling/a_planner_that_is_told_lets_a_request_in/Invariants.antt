use Rattle.lb_desk_shared_rows.specs.declared.desks.TheConstants.{JOURNAL}
use Rattle.lb_desk_shared_rows.proofs.telling.a_planner_that_is_told_lets_a_request_in.Given as goal

abbrev pub ghosts-tell-N-Tables : goal.ghosts-tell-N-Tables
ghosts-tell-N-Tables g a = record { table_of = λ _. a.opened }

abbrev pub ghosts-tell-N-Naming : goal.ghosts-tell-N-Naming
ghosts-tell-N-Naming g a = record { opening = λ _. a.backend.now; journal_size = λ _. JOURNAL }
