-- The ranges of what lines say of servers and of tables: HAProxy Configuration Manual 2.8, sections 4.2 (`stick-table`) and 5.2. The
-- greatest numbers are this project's own, but for times, ports and weights.
use Rattle.std.specs.Prelude.{◌≤◌, IfSome, ⊤}
use Rattle.lb_types.specs.declared.limits.TheConstants.{MAX_CONNECTIONS, MAX_PINS, MAX_WEIGHT}
use Rattle.rise_fall.specs.declared.health.TheConstants.{MAX_STREAK}
use Rattle.lb_acl.specs.declared.key.TheConstants.{MAX_KEY_LEN}
use Rattle.lb_acl.specs.declared.key.TableType.{TableType}
use Rattle.lb_acl.specs.declared.key.TableType.TheVariants.{Ip, Text}
use Rattle.lb_config_arguments.specs.Ranges.{IsFromTo, IsPort, IsTime}
use Rattle.lb_config_parameters.specs.OptionsView.{OptionsView}
use Rattle.lb_config_parameters.specs.TableViews.{StickTableView}
use Rattle.lb_config_parameters.specs.declared.server_line.ServerLine.{ServerLine}

-- what is said of servers
pub record AreOptions (options : OptionsView) : Type 0 where
  pub interval : IfSome options.interval IsTime
  pub rise : IfSome options.rise (IsFromTo 1 MAX_STREAK)
  pub fall : IfSome options.fall (IsFromTo 1 MAX_STREAK)
  pub weight : IfSome options.weight (λ weight. weight ≤ MAX_WEIGHT)
  pub max_connections : IfSome options.max_connections (λ number. number ≤ MAX_CONNECTIONS)
  pub max_pins : IfSome options.max_pins (λ number. number ≤ MAX_PINS)

-- a server's port, and what its line says of it
pub record IsServer (server : ServerLine) : Type 0 where
  pub port : IsPort server.endpoint.port
  pub options : AreOptions server.options

-- a text is cut to so many bytes
abbrev pub IsKeyType : TableType → Type 0
IsKeyType Ip = ⊤
IsKeyType (Text len) = IsFromTo 1 MAX_KEY_LEN len

pub record IsTable (table : StickTableView) : Type 0 where
  pub kind : IsKeyType table.kind
  pub size : IsFromTo 1 MAX_PINS table.size
  pub expire : IfSome table.expire IsTime
