-- The backend that the machine opens with, of a backend of the configuration: HAProxy Configuration Manual 2.8, section 4.2
-- (`balance`, `option allbackups`, `stick-table`, `server`) and section 5.2. Addresses, checks, times, rules and the keys of pins
-- are no part of the machine.
use Rattle.std.specs.Prelude.{◌≡◌, ℕ, Bool, List, Option, Some, length, map, slice_get}
use Rattle.std.specs.Option.{option_map}
use Rattle.lb_config_parameters.specs.TableViews.{StickTableView}
use Rattle.lb_config_values.specs.ServerView.{ServerView, SettingsView, settings_view}
use Rattle.lb_config.specs.ConfigViews.{BackendView}
use Rattle.lb_desk_model.specs.declared.backend.BackendServer.{BackendServer}
use Rattle.lb_types.specs.declared.table_settings.TableSettings.{TableSettings}
use Rattle.lb_desk_model.specs.Backends.{BackendParts, OpenedBackend}

-- how many pins a table holds, after how many milliseconds without a use a pin may go, and whether a full table keeps its pins
pub record TableParts : Type 0 where
  pub size : ℕ
  pub expire : Option ℕ
  pub no_purge : Bool

-- a table without the facts of its ranges
abbrev pub table_parts : TableSettings → TableParts
table_parts table = record { size = table.size; expire = table.expire; no_purge = table.no_purge }

-- what `stick-table` says of them; the type of its keys is left to those who make keys
abbrev pub configured_table : StickTableView → TableParts
configured_table table = record { size = table.size; expire = table.expire; no_purge = table.is_nopurge }

-- a server's name, and the settings that it begins with
pub record ServerParts : Type 0 where
  pub name : List ℕ
  pub settings : SettingsView

-- a server without the facts of its ranges
abbrev pub server_parts : BackendServer → ServerParts
server_parts server = record { name = server.name; settings = settings_view server.settings }

abbrev pub configured_server : ServerView → ServerParts
configured_server server = record { name = server.name; settings = server.settings }

-- the backend is the configured one: it picks by the same balance, has the same table, and the same servers in the same order
pub record IsBackendOf (config : BackendView) (backend : BackendParts) : Type 0 where
  pub balance : backend.balance ≡ config.balance
  pub all_backups : backend.all_backups ≡ config.all_backups
  pub table : option_map table_parts backend.table ≡ option_map configured_table config.rules.table
  pub servers : map server_parts backend.servers ≡ map configured_server config.servers

-- a configured backend is one backend of the machine, and so has one opening state
abbrev pub OpensAsOneBackend : Type 0
OpensAsOneBackend = (config : BackendView) (a b : BackendParts) → IsBackendOf config a → IsBackendOf config b → a ≡ b

-- ---- the backends of a configuration

-- these are the backends of the machine that are configured, in their order
pub record AreBackendsOf (configs : List BackendView) (backends : List BackendParts) : Type 0 where
  pub count : length backends ≡ length configs
  pub each : (place : ℕ) (backend : BackendParts) → slice_get backends place ≡ Some backend → (config : BackendView)
      → slice_get configs place ≡ Some config → IsBackendOf config backend

-- this is the backend at the place of the configuration, as its desk opened: the desk has the place as its number, and its journal has the
-- size that is configured
pub record OpensAt (configs : List BackendView) (place : ℕ) (opened : OpenedBackend) : Type 0 where
  pub config : BackendView
  pub there : slice_get configs place ≡ Some config
  pub number : opened.number ≡ place
  pub parts : IsBackendOf config opened.parts
  pub journal_size : opened.journal_size ≡ config.journal

-- these are all the backends of the configuration, as their desks opened, in its order
pub record OpenInOrder (configs : List BackendView) (opened : List OpenedBackend) : Type 0 where
  pub count : length opened ≡ length configs
  pub each : (place : ℕ) (one : OpenedBackend) → slice_get opened place ≡ Some one → OpensAt configs place one
