-- The rules of a section, as contracts see them.
use Rattle.std.specs.Prelude.{List, Option}
use Rattle.lb_acl.specs.PinCostView.{PinCostView}
use Rattle.lb_acl.specs.declared.key.StickOn.{StickOn}
use Rattle.lb_acl.specs.declared.rules.UseServer.{UseServer}
use Rattle.lb_config_arguments.specs.declared.address.Endpoint.{Endpoint}
use Rattle.lb_config_parameters.specs.TableViews.{StickTableView}
use Rattle.lb_config_rules.specs.declared.backend_choice.BackendChoice.{BackendChoice}

-- towards clients: where it listens, and which backends its requests go to
pub record FrontRulesView : Type 0 where
  pub binds : List Endpoint
  pub choices : List BackendChoice

-- towards servers: the table and the key of its pins, the servers that requests want, and what pins cost
pub record BackRulesView : Type 0 where
  pub table : Option StickTableView
  pub stick_on : Option StickOn
  pub use_servers : List UseServer
  pub pin_costs : List PinCostView
