use Rattle.std.proofs.Common.{◌≡◌, ◌++◌, drop}
use Rattle.lb_config_values.specs.Servers.{servers_behind}
use Rattle.lb_config_values.proofs.servers.read_servers.Given as goal

abbrev pub invariant-loop-numbered : goal.invariant-loop-numbered
invariant-loop-numbered l =
    l.servers.items ++ servers_behind l.max_pins l.check l.options (drop l.numbered-index l.settings)
    ≡ servers_behind l.max_pins l.check l.fn.defaults l.settings
