use Rattle.lb_desk_shared_rows.specs.declared.desks.TheConstants.{JOURNAL}
use Rattle.lb_desk_shared_rows.proofs.closings.a_desk_is_closed_once_all_is_back.Given as goal

abbrev pub ghosts-close_thrice-B-Tables : goal.ghosts-close_thrice-B-Tables
ghosts-close_thrice-B-Tables g a = record { table_of = λ _. a.opened }

abbrev pub ghosts-close_thrice-B-Naming : goal.ghosts-close_thrice-B-Naming
ghosts-close_thrice-B-Naming g a = record { opening = λ _. a.backend.now; journal_size = λ _. JOURNAL }
