use Rattle.lb_desk_shared_rows.specs.declared.desks.TheConstants.{JOURNAL}
use Rattle.lb_desk_shared_rows.proofs.threads.a_pin_of_one_thread_is_kept_for_another.Given as goal

abbrev pub ghosts-keep_for_another-B-Tables : goal.ghosts-keep_for_another-B-Tables
ghosts-keep_for_another-B-Tables g a = record { table_of = λ _. a.opened }

abbrev pub ghosts-keep_for_another-B-Naming : goal.ghosts-keep_for_another-B-Naming
ghosts-keep_for_another-B-Naming g a = record { opening = λ _. a.backend.now; journal_size = λ _. JOURNAL }
