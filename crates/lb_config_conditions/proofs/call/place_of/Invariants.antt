use Rattle.std.proofs.Common.{◌≡◌, ◌+◌, drop}
use Rattle.lb_config_conditions.specs.Calls.{place_of}
use Rattle.lb_config_conditions.proofs.call.place_of.Given as goal

abbrev pub invariant-loop-i : goal.invariant-loop-i
invariant-loop-i l = l.i + place_of l.mark (drop l.i l.bytes) ≡ place_of l.mark l.bytes
