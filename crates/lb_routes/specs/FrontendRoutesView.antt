-- What a configuration has for the requests at one of its frontends, as contracts see it.
use Rattle.std.specs.Prelude.{List}
use Rattle.lb_config.specs.ConfigViews.{BackendView, FrontendView}

-- the frontend, and all backends
pub record FrontendRoutesView : Type 0 where
  pub frontend : FrontendView
  pub backends : List BackendView
