use Rattle.std.proofs.Common.{length}
use Rattle.small_farms.proofs.assignments.Search.+try_rest.Given as goal

abbrev pub decreases-try_rest : goal.decreases-try_rest
decreases-try_rest l = length l.pins.now
