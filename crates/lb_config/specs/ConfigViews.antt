-- A configuration as contracts see it.
use Rattle.std.specs.Prelude.{ℕ, Bool, List, Option}
use Rattle.lb_types.specs.declared.balance.Balance.{Balance}
use Rattle.lb_config_keywords.specs.declared.stats_socket.SocketAddress.{SocketAddress}
use Rattle.lb_config_rules.specs.RulesView.{BackRulesView, FrontRulesView}
use Rattle.lb_config_sections.specs.declared.warning.Warning.{Warning}
use Rattle.lb_config_values.specs.ServerView.{ServerView}
use Rattle.lb_config_values.specs.declared.timeouts.Timeouts.{Timeouts}

-- a backend
pub record BackendView : Type 0 where
  pub name : List ℕ
  pub balance : Balance
  pub all_backups : Bool
  pub evacuate : Bool
  pub forward_for : Bool
  pub timeouts : Timeouts
  pub journal : ℕ
  pub servers : List ServerView
  pub rules : BackRulesView

-- a frontend; backends are told by their places
pub record FrontendView : Type 0 where
  pub name : List ℕ
  pub forward_for : Bool
  pub client_time : Option ℕ
  pub default_backend : Option ℕ
  pub rules : FrontRulesView

-- a configuration: the number of relay workers, how often an evacuation is tried, the command socket, and the rest in the order of
-- the text
pub record ConfigView : Type 0 where
  pub relays : ℕ
  pub tries : ℕ
  pub socket : Option SocketAddress
  pub frontends : List FrontendView
  pub backends : List BackendView
  pub warnings : List Warning
