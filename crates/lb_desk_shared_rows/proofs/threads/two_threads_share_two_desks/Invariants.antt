use Rattle.std.proofs.Common.{◌==◌, if◌then◌else◌}
use Rattle.lb_desk_shared_rows.specs.declared.desks.TheConstants.{JOURNAL}
use Rattle.lb_desk_shared_rows.proofs.threads.two_threads_share_two_desks.Given as goal

abbrev pub ghosts-share_two-B-Tables : goal.ghosts-share_two-B-Tables
ghosts-share_two-B-Tables g a = record { table_of = λ k. if k == 1 then a.one else a.two }

abbrev pub ghosts-share_two-B-Naming : goal.ghosts-share_two-B-Naming
ghosts-share_two-B-Naming g a = record { opening = λ _. a.backend.now; journal_size = λ _. JOURNAL }
