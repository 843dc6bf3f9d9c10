use Rattle.std.proofs.Common.{◌≡◌, map, take}
use Rattle.std.specs.List.{zip}
use Rattle.lb_desk_model.specs.Seen.{named_server}
use Rattle.lb_desk_core.proofs.sheets.seen_servers.Given as goal

abbrev pub invariant-loop-i : goal.invariant-loop-i
invariant-loop-i l = l.seen.items ≡ take l.i (map named_server (zip l.names l.farm.servers))
