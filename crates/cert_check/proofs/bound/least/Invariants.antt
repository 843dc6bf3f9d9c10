use Rattle.std.proofs.Common.{◌≡◌}
use Rattle.pin_set.specs.Costs.{least}
use Rattle.cert_check.specs.Verdict.{price_at}
use Rattle.cert_check.proofs.bound.least.Given as goal

abbrev pub invariant-loop-i : goal.invariant-loop-i
invariant-loop-i l = l.least ≡ least l.unplaced_cost (price_at l.servers) l.i l.kind
