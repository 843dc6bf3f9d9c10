use Rattle.std.proofs.Common.{◌≡◌, ℕ, ◌&&◌, ltb}
use Rattle.lb_types.specs.Servers.{has}
use Rattle.lb_cli_haproxy.specs.Sheets.{stays_on_at}
use Rattle.lb_cli_haproxy.proofs.sheet_farm.usable_servers.Given as goal

abbrev pub invariant-loop-i : goal.invariant-loop-i
invariant-loop-i l = (s : ℕ) → has l.usable s ≡ (ltb s l.i && stays_on_at l.gone l.servers s)
