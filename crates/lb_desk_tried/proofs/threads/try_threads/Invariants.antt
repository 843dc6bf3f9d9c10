use Rattle.std.proofs.Common.{◌==◌, if◌then◌else◌}
use Rattle.lb_desk_tried.proofs.threads.try_threads.Given as goal

abbrev pub ghosts-share-B-Tables : goal.ghosts-share-B-Tables
ghosts-share-B-Tables g a = record { table_of = λ k. if k == 1 then a.opened.0 else a.opened.1 }

abbrev pub ghosts-share-B-Naming : goal.ghosts-share-B-Naming
ghosts-share-B-Naming g a = record { opening = λ _. a.backend.now; journal_size = λ _. a.journal }
