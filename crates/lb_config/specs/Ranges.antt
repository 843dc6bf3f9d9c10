-- The ranges of times, ports and journals that a configuration keeps: HAProxy Configuration Manual 2.8, sections 2.4 ("Time
-- format"), 4.2 (`bind`, `server`, `stick-table`, `timeout`) and 5.2 (`inter`). The greatest journal is this project's own.
use Rattle.std.specs.Prelude.{ℕ, IfSome, All}
use Rattle.lb_config_arguments.specs.Ranges.{IsFromTo, IsPort, IsTime}
use Rattle.lb_config_arguments.specs.declared.numbers.TheConstants.{MAX_MILLIS}
use Rattle.lb_config_lines.specs.declared.common_line.TheConstants.{MAX_JOURNAL}
use Rattle.lb_config_parameters.specs.Ranges.{IsTable}
use Rattle.lb_config_values.specs.ServerView.{ServerView}
use Rattle.lb_config_values.specs.declared.timeouts.Timeouts.{Timeouts}
use Rattle.lb_config.specs.ConfigViews.{BackendView, FrontendView}

-- so many milliseconds are a limit: a time of 0 is none
abbrev pub IsLimit : ℕ → Type 0
IsLimit millis = IsFromTo 1 MAX_MILLIS millis

-- each time that is said is in the range of times
pub record AreTimes (timeouts : Timeouts) : Type 0 where
  pub client : IfSome timeouts.client IsTime
  pub connect : IfSome timeouts.connect IsTime
  pub server : IfSome timeouts.server IsTime
  pub queue : IfSome timeouts.queue IsTime
  pub check : IfSome timeouts.check IsTime

-- a server's port, which its checks use too, and the time between two of them
pub record HasServerRanges (server : ServerView) : Type 0 where
  pub port : IsPort server.endpoint.port
  pub interval : IsTime server.interval

-- a backend's times, those of its servers and of its table, their ports, and how many entries its journal keeps
pub record HasBackRanges (backend : BackendView) : Type 0 where
  pub timeouts : AreTimes backend.timeouts
  pub journal : IsFromTo 1 MAX_JOURNAL backend.journal
  pub servers : All HasServerRanges backend.servers
  pub table : IfSome backend.rules.table IsTable

-- a frontend's time, and the ports where it listens
pub record HasFrontRanges (frontend : FrontendView) : Type 0 where
  pub client_time : IfSome frontend.client_time IsTime
  pub binds : All (λ endpoint. IsPort endpoint.port) frontend.rules.binds
