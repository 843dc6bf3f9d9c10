use Rattle.bench_parts.specs.declared.shared.TheConstants.{JOURNAL}
use Rattle.bench_parts.proofs.shared.measure_shared.Given as goal

abbrev pub ghosts-share-B-Tables : goal.ghosts-share-B-Tables
ghosts-share-B-Tables g a = record { table_of = λ _. a.opened }

abbrev pub ghosts-share-B-Naming : goal.ghosts-share-B-Naming
ghosts-share-B-Naming g a = record { opening = λ _. a.backend.now; journal_size = λ _. JOURNAL }
