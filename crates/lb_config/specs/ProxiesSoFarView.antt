-- The proxies of the sections so far, as contracts see them.
use Rattle.std.specs.Prelude.{List}
use Rattle.lb_config_values.specs.declared.defaults.Defaults.{Defaults}
use Rattle.lb_config.specs.ConfigViews.{BackendView, FrontendView}

-- what the last `defaults` says, and what was read
pub record ProxiesSoFarView : Type 0 where
  pub defaults : Defaults
  pub frontends : List FrontendView
  pub backends : List BackendView
