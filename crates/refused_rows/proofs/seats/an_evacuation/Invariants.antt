use Rattle.refused_rows.specs.declared.seats.TheConstants.{JOURNAL}
use Rattle.refused_rows.proofs.seats.an_evacuation.Given as goal

abbrev pub ghosts-at_a_desk-N-Tables : goal.ghosts-at_a_desk-N-Tables
ghosts-at_a_desk-N-Tables g a = record { table_of = λ _. a.opened }

abbrev pub ghosts-at_a_desk-N-Naming : goal.ghosts-at_a_desk-N-Naming
ghosts-at_a_desk-N-Naming g a = record { opening = λ _. a.backend.now; journal_size = λ _. JOURNAL }
