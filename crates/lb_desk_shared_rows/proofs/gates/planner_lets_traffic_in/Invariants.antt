use Rattle.lb_desk_shared_rows.specs.declared.desks.TheConstants.{JOURNAL}
use Rattle.lb_desk_shared_rows.proofs.gates.planner_lets_traffic_in.Given as goal

abbrev pub ghosts-meet-N-Tables : goal.ghosts-meet-N-Tables
ghosts-meet-N-Tables g a = record { table_of = λ _. a.opened }

abbrev pub ghosts-meet-N-Naming : goal.ghosts-meet-N-Naming
ghosts-meet-N-Naming g a = record { opening = λ _. a.backend.now; journal_size = λ _. JOURNAL }
