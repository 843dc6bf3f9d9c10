-- What a `defaults` section says of the sections behind it: HAProxy Configuration Manual 2.8, section 4.
use Rattle.std.specs.Prelude.{List, None}
use Rattle.lb_config_sections.specs.declared.config_section.NumberedSetting.{NumberedSetting}
use Rattle.lb_config_parameters.specs.Options.{no_options}
use Rattle.lb_config_values.specs.Servers.{default_options}
use Rattle.lb_config_values.specs.Values.{check_line_in, last_said, no_values, values_behind}
use Rattle.lb_config_values.specs.declared.defaults.Defaults.{Defaults}

-- nothing is said
abbrev pub no_defaults : Defaults
no_defaults = record { values = no_values; servers = no_options; check = None }

-- of each value the last one said, what the `default-server` lines say together, and the request line of the last `option httpchk`
abbrev pub defaults_of : List NumberedSetting → Defaults
defaults_of settings = record {
  values = values_behind no_values settings;
  servers = default_options no_options settings;
  check = last_said None check_line_in settings;
}
