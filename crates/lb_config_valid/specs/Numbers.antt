-- The ranges of numbers in a configuration: HAProxy Configuration Manual 2.8, sections 3, 4.2 and 5.2. The greatest numbers are this
-- project's own, but for times, ports and weights.
use Rattle.std.specs.Prelude.{⊤}
use Rattle.lb_types.specs.declared.limits.TheConstants.{MAX_COST}
use Rattle.lb_config_arguments.specs.Ranges.{IsFromTo, IsPort, IsTime}
use Rattle.lb_config_keywords.specs.declared.stats_socket.SocketAddress.{SocketAddress}
use Rattle.lb_config_keywords.specs.declared.stats_socket.SocketAddress.TheVariants as Socket
use Rattle.lb_config_lines.specs.declared.common_line.TheConstants.{MAX_JOURNAL, MAX_RELAYS, MAX_TRIES}
use Rattle.lb_config_lines.specs.declared.setting.Setting.{Setting}
use Rattle.lb_config_lines.specs.declared.setting.Setting.TheVariants as Set
use Rattle.lb_config_parameters.specs.Ranges.{AreOptions, IsServer, IsTable}

-- a path, or an address with its port
abbrev pub IsSocket : SocketAddress → Type 0
IsSocket (Socket.Path path) = ⊤
IsSocket (Socket.Tcp endpoint) = IsPort endpoint.port

-- each number that the setting has is in its range
abbrev pub HasNumbers : Setting → Type 0
HasNumbers (Set.Relays number) = IsFromTo 1 MAX_RELAYS number
HasNumbers (Set.Tries number) = IsFromTo 1 MAX_TRIES number
HasNumbers (Set.Journal number) = IsFromTo 1 MAX_JOURNAL number
HasNumbers (Set.StatsSocket socket) = IsSocket socket.address
HasNumbers (Set.Timeout timeout millis) = IsTime millis
HasNumbers (Set.Bind endpoint) = IsPort endpoint.port
HasNumbers (Set.StickTable table) = IsTable table
HasNumbers (Set.PinCost rule) = IsFromTo 1 MAX_COST rule.cost
HasNumbers (Set.DefaultServer options) = AreOptions options
HasNumbers (Set.Server server) = IsServer server
HasNumbers _ = ⊤
