use Rattle.std.proofs.Common.{◌≡◌, take, map}
use Rattle.std.specs.List.{enumerate_from}
use Rattle.cert_check_law.specs.Sheets.{listed_server}
use Rattle.pin_groups.proofs.listed.listed_servers.Given as goal

abbrev pub invariant-loop-i : goal.invariant-loop-i
invariant-loop-i l = l.listed.items ≡ take l.i (map (listed_server l.usable) (enumerate_from 0 l.servers))
