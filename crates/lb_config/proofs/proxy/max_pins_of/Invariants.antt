use Rattle.std.proofs.Common.{◌≡◌, ◌≤◌, None, drop}
use Rattle.std.specs.Option.{ForSome}
use Rattle.lb_config_values.specs.Values.{last_said}
use Rattle.lb_config.specs.Configs.{size_in}
use Rattle.lb_config.proofs.proxy.max_pins_of.Given as goal

abbrev pub invariant-loop-numbered : goal.invariant-loop-numbered
invariant-loop-numbered l =
    (last_said l.size size_in (drop l.numbered-index l.settings) ≡ last_said None size_in l.settings) × ForSome l.size (λ number. number ≤ 16777216)
