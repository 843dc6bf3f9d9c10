use Rattle.std.proofs.Common.{◌<◌, ◌≤◌, ℕ, get_or}
use Rattle.flow_planner_repair.proofs.arcs.has_pins.Given as goal

abbrev pub invariant-loop-pins : goal.invariant-loop-pins
invariant-loop-pins l = (k : ℕ) → k < l.pins-index → get_or l.counts k 0 ≤ l.bits
