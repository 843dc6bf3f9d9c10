use Rattle.std.proofs.Common.{ℕ, ◌<◌, ◌≤◌}
use Rattle.pin_set.specs.Rows.{rows_load}
use Rattle.dual_cert_plan.specs.Plans.{servers_of}
use Rattle.cert_check.specs.Verdict.{room}
use Rattle.cert_check.proofs.lawful.is_within_capacity.Given as goal

abbrev pub invariant-loop-i : goal.invariant-loop-i
invariant-loop-i l = (s : ℕ) → s < l.i → rows_load l.rows s ≤ room (servers_of l.servers) s
