-- A server of a backend, as contracts see it.
use Rattle.std.specs.Prelude.{ℕ, Bool, List, Option}
use Rattle.std.specs.Option.{option_map}
use Rattle.lb_config_arguments.specs.declared.address.Endpoint.{Endpoint}
use Rattle.server_state.specs.declared.settings.AdminState.{AdminState}
use Rattle.server_state.specs.declared.settings.CheckSettings.{CheckSettings}
use Rattle.server_state.specs.declared.settings.ServerSettings.{ServerSettings}

-- how many successes bring a checked server up, and how many failures bring it down
pub record CheckCounts : Type 0 where
  pub rise : ℕ
  pub fall : ℕ

-- what commands may change, whether it stands by for the others, and how its checks count, if it is checked
pub record SettingsView : Type 0 where
  pub admin : AdminState
  pub weight : ℕ
  pub max_connections : ℕ
  pub max_pins : ℕ
  pub backup : Bool
  pub check : Option CheckCounts

abbrev pub check_counts : CheckSettings → CheckCounts
check_counts check = record { rise = check.rise; fall = check.fall }

-- settings without the facts of their ranges
abbrev pub settings_view : ServerSettings → SettingsView
settings_view settings = record {
  admin = settings.admin;
  weight = settings.weight;
  max_connections = settings.max_connections;
  max_pins = settings.max_pins;
  backup = settings.backup;
  check = option_map check_counts settings.check;
}

-- a server: its name, where it is reached, its settings, the milliseconds between two checks, and what a check sends, if not
-- connecting is all
pub record ServerView : Type 0 where
  pub name : List ℕ
  pub endpoint : Endpoint
  pub settings : SettingsView
  pub interval : ℕ
  pub check_request : Option (List ℕ)
