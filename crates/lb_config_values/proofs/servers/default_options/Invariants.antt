use Rattle.std.proofs.Common.{◌≡◌, drop}
use Rattle.lb_config_parameters.specs.Options.{no_options}
use Rattle.lb_config_values.specs.Servers.{default_options}
use Rattle.lb_config_values.proofs.servers.default_options.Given as goal

abbrev pub invariant-loop-numbered : goal.invariant-loop-numbered
invariant-loop-numbered l = default_options l.defaults (drop l.numbered-index l.settings) ≡ default_options no_options l.settings
