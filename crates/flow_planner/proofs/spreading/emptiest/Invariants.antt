use Rattle.flow_planner.specs.Fillings.{IsHome}
use Rattle.flow_planner.proofs.spreading.emptiest.Given as goal

abbrev pub invariant-loop-option : goal.invariant-loop-option
invariant-loop-option l = IsHome l.network l.group l.best
