use Rattle.std.proofs.Common.{◌≡◌, drop}
use Rattle.lb_config_values.specs.Values.{values_behind}
use Rattle.lb_config_values.proofs.proxy_values.ProxyValues.behind.Given as goal

abbrev pub invariant-loop-numbered : goal.invariant-loop-numbered
invariant-loop-numbered l = values_behind l.values (drop l.numbered-index l.settings) ≡ values_behind l.fn.self l.settings
