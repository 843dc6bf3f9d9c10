use Rattle.std.proofs.Common.{◌≡◌, take}
use Rattle.std.specs.Prelude.{fold}
use Rattle.lb_types.specs.Servers.{with_server}
use Rattle.lb_script.proofs.set_pins.set_of.Given as goal

abbrev pub invariant-loop-server : goal.invariant-loop-server
invariant-loop-server l = l.set ≡ fold with_server 0 (take l.server-index l.servers)
