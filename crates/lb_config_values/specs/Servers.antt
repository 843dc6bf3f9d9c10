-- The servers of a section: HAProxy Configuration Manual 2.8, section 4.2 (`server`, `default-server`, `option httpchk`) and
-- section 5.2 (their parameters). A `default-server` says something of the servers behind it alone; several add up, and a
-- server's own line goes before them.
use Rattle.std.specs.Prelude.{ℕ, Bool, ◌||◌, List, [], ◌∷◌, ◌++◌, Option, Some, None, unwrap_or, if◌then◌else◌}
use Rattle.std.specs.Option.{option_or, option_to_list}
use Rattle.check_workers_rule.specs.CheckRequests.{CheckLine, check_request}
use Rattle.lb_config_arguments.specs.declared.address.Endpoint.{Endpoint}
use Rattle.lb_config_lines.specs.declared.setting.Setting.{Setting}
use Rattle.lb_config_lines.specs.declared.setting.Setting.TheVariants as Set
use Rattle.lb_config_sections.specs.declared.config_section.NumberedSetting.{NumberedSetting}
use Rattle.lb_config_parameters.specs.OptionsView.{OptionsView}
use Rattle.lb_config_parameters.specs.declared.server_line.ServerLine.{ServerLine}
use Rattle.server_state.specs.declared.settings.AdminState.{AdminState}
use Rattle.server_state.specs.declared.settings.AdminState.TheVariants.{Ready, Maint}
use Rattle.lb_config_values.specs.ServerView.{ServerView, SettingsView}

-- what the server's own line says, and where it says nothing what the defaults say
abbrev pub options_over : OptionsView → OptionsView → OptionsView
options_over defaults own = record {
  is_checked = own.is_checked || defaults.is_checked;
  is_backup = own.is_backup || defaults.is_backup;
  is_disabled = own.is_disabled || defaults.is_disabled;
  interval = option_or own.interval defaults.interval;
  rise = option_or own.rise defaults.rise;
  fall = option_or own.fall defaults.fall;
  weight = option_or own.weight defaults.weight;
  max_connections = option_or own.max_connections defaults.max_connections;
  max_pins = option_or own.max_pins defaults.max_pins;
}

-- what is said of the servers behind the setting
abbrev pub with_default : OptionsView → Setting → OptionsView
with_default defaults (Set.DefaultServer options) = options_over defaults options
with_default defaults _ = defaults

-- what is said of the servers behind all of them
abbrev pub default_options : OptionsView → List NumberedSetting → OptionsView
default_options defaults [] = defaults
default_options defaults (numbered ∷ more) = default_options (with_default defaults numbered.setting) more

-- a `disabled` server opens in maintenance
abbrev pub admin_of : Bool → AdminState
admin_of is_disabled = if is_disabled then Maint else Ready

-- what is said, or the default of each parameter; `max_pins` is that of `maxpins`
abbrev pub settings_of : ℕ → OptionsView → SettingsView
settings_of max_pins options = record {
  admin = admin_of options.is_disabled;
  weight = unwrap_or options.weight 1;
  max_connections = unwrap_or options.max_connections 0;
  max_pins = unwrap_or options.max_pins max_pins;
  backup = options.is_backup;
  check = if options.is_checked then Some (record { rise = unwrap_or options.rise 2; fall = unwrap_or options.fall 3 }) else None;
}

-- what a check sends: nothing without `option httpchk`
abbrev pub check_request_at : Option CheckLine → Endpoint → Option (List ℕ)
check_request_at None endpoint = None
check_request_at (Some line) endpoint = Some (check_request line endpoint.address endpoint.port)

-- the server of a line, by all that is said of it
abbrev pub server_of : ℕ → Option CheckLine → OptionsView → ServerLine → ServerView
server_of max_pins check options line = record {
  name = line.name;
  endpoint = line.endpoint;
  settings = settings_of max_pins options;
  interval = unwrap_or options.interval 2000;
  check_request = check_request_at check line.endpoint;
}

-- the server that the setting is, if it is one
abbrev pub server_in : ℕ → Option CheckLine → OptionsView → Setting → Option ServerView
server_in max_pins check defaults (Set.Server line) = Some (server_of max_pins check (options_over defaults line.options) line)
server_in max_pins check defaults _ = None

-- the servers in their order, each by the defaults before it
abbrev pub servers_behind : ℕ → Option CheckLine → OptionsView → List NumberedSetting → List ServerView
servers_behind max_pins check defaults [] = []
servers_behind max_pins check defaults (numbered ∷ more) =
    option_to_list (server_in max_pins check defaults numbered.setting)
    ++ servers_behind max_pins check (with_default defaults numbered.setting) more
