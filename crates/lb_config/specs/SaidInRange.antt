-- What lines say is in range, where the numbers of each line are. No public clause cites this module.
use Rattle.std.specs.Prelude.{List, IfSome, All}
use Rattle.lb_config_arguments.specs.Ranges.{IsTime}
use Rattle.lb_config_sections.specs.declared.config_section.NumberedSetting.{NumberedSetting}
use Rattle.lb_config_valid.specs.Numbers.{HasNumbers}
use Rattle.lb_config_values.specs.declared.defaults.Defaults.{Defaults}
use Rattle.lb_config.specs.Ranges.{AreTimes}

-- the numbers of all settings of a section are in their ranges
abbrev pub HaveNumbers : List NumberedSetting → Type 0
HaveNumbers settings = All (λ numbered. HasNumbers numbered.setting) settings

-- the times that a `defaults` section says
pub record AreDefaults (defaults : Defaults) : Type 0 where
  pub timeouts : AreTimes defaults.values.timeouts
  pub interval : IfSome defaults.servers.interval IsTime
