-- What operators' commands are carried out with.
use Rattle.std.specs.Prelude.{◌≡◌, ℕ, List, Option, Some, length, map, slice_get}
use Rattle.std.specs.Option.{option_map}
use Rattle.lb_answers.specs.declared.named_backend.NamedBackend.{NamedBackend}
use Rattle.lb_answers.specs.declared.named_backend.NamedTable.{NamedTable}
use Rattle.lb_config.specs.ConfigViews.{BackendView, ConfigView}
use Rattle.lb_config_parameters.specs.TableViews.{StickTableView}

pub record ConsoleView : Type 0 where
  pub config : ConfigView
  -- the backends as answers name them, in the configuration's order
  pub names : List NamedBackend
  -- when it is: the moment of what commands do to pins
  pub moment : ℕ

abbrev pub console_of : ConfigView → List NamedBackend → ℕ → ConsoleView
console_of config names moment = record { config = config; names = names; moment = moment }

-- the console at another moment
abbrev pub console_at : ConsoleView → ℕ → ConsoleView
console_at console moment = record console { moment = moment }

-- a table as answers name it
abbrev pub named_table : StickTableView → NamedTable
named_table table = record { key_type = table.kind; size = table.size }

-- the table of a backend, if it has one
abbrev pub table_of : BackendView → Option NamedTable
table_of backend = option_map named_table backend.rules.table

-- the backend is named as it is configured: by its name, with its table and the names of its servers
pub record IsNameOf (config : BackendView) (named : NamedBackend) : Type 0 where
  pub name : named.name ≡ config.name
  pub table : named.table ≡ table_of config
  pub servers : map (λ s. s.name) named.servers.now ≡ map (λ s. s.name) config.servers

-- each of these backends has its name, at its place
pub record AreNamesOf (configs : List BackendView) (names : List NamedBackend) : Type 0 where
  pub count : length names ≡ length configs
  pub each : (place : ℕ) (named : NamedBackend) → slice_get names place ≡ Some named → (config : BackendView)
      → slice_get configs place ≡ Some config → IsNameOf config named

-- each backend of the configuration has its name
abbrev pub IsConsole : ConsoleView → Type 0
IsConsole console = AreNamesOf console.config.backends console.names
