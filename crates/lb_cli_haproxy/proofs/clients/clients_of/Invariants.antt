use Rattle.std.proofs.Common.{◌≡◌, take}
use Rattle.std.specs.Prelude.{filter_map}
use Rattle.lb_cli_haproxy.specs.Clients.{client_of}
use Rattle.lb_cli_haproxy.proofs.clients.clients_of.Given as goal

abbrev pub invariant-loop-entry : goal.invariant-loop-entry
invariant-loop-entry l = l.clients.items ≡ filter_map (client_of l.servers l.farm) (take l.entry-index l.entries)
