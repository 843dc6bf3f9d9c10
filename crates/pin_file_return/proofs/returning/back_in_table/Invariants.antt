use Rattle.std.proofs.Common.{length}
use Rattle.std.specs.Prelude.{All}
use Rattle.pin_file.specs.Files.{IsFilePin}
use Rattle.pin_file_return.proofs.Walks.{Walked}
use Rattle.pin_file_return.proofs.returning.back_in_table.Given as goal

-- what is kept of the pins behind the rest, and that the rest is lawful
abbrev pub invariant-loop-pin : goal.invariant-loop-pin
invariant-loop-pin g l = Walked l.servers l.table.kind l.size l.now l.fn.pins l.rest l.kept × All IsFilePin l.rest

abbrev pub decreases-loop-pin : goal.decreases-loop-pin
decreases-loop-pin g l = length l.rest
