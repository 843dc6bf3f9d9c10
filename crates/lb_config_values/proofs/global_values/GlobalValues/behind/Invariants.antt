use Rattle.std.proofs.Common.{◌≡◌, drop}
use Rattle.lb_config_values.specs.Values.{globals_behind}
use Rattle.lb_config_values.proofs.global_values.GlobalValues.behind.Given as goal

abbrev pub invariant-loop-numbered : goal.invariant-loop-numbered
invariant-loop-numbered l = globals_behind l.values (drop l.numbered-index l.settings) ≡ globals_behind l.fn.self l.settings
