use Rattle.std.proofs.Common.{◌≡◌, take}
use Rattle.dual_cert_plan.specs.Plans.{servers_of}
use Rattle.cert_check.proofs.own_sheet.are_same_servers.Given as goal

abbrev pub invariant-loop-i : goal.invariant-loop-i
invariant-loop-i l = take l.i (servers_of l.priced) ≡ take l.i l.servers
