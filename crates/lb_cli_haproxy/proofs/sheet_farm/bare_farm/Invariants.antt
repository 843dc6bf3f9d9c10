use Rattle.std.proofs.Common.{◌≡◌, map, take}
use Rattle.lb_cli_haproxy.specs.Sheets.{bare_server}
use Rattle.lb_cli_haproxy.proofs.sheet_farm.bare_farm.Given as goal

abbrev pub invariant-loop-server : goal.invariant-loop-server
invariant-loop-server l = l.farm.items ≡ map bare_server (take l.server-index l.servers)
