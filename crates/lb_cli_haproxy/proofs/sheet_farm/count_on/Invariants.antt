use Rattle.std.proofs.Common.{◌≡◌, take, count_by}
use Rattle.lb_cli_haproxy.specs.Sheets.{stays_on}
use Rattle.lb_cli_haproxy.proofs.sheet_farm.count_on.Given as goal

abbrev pub invariant-loop-server : goal.invariant-loop-server
invariant-loop-server l = l.count ≡ count_by (stays_on l.gone) (take l.server-index l.servers)
