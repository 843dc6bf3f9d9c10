use Rattle.std.proofs.Common.{◌≡◌, ℕ, ◌&&◌, ltb}
use Rattle.lb_types.specs.Servers.{has}
use Rattle.lb_cli_haproxy.specs.PlanFarms.{is_on_at}
use Rattle.lb_cli_haproxy.proofs.plan_farm.usable_among.Given as goal

abbrev pub invariant-loop-i : goal.invariant-loop-i
invariant-loop-i l = (s : ℕ) → has l.usable s ≡ (ltb s l.i && is_on_at l.servers s)
