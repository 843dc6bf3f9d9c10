-- A section's lines by their kinds, as contracts see them.
use Rattle.std.specs.Prelude.{List, Option}
use Rattle.lb_acl.specs.declared.key.KeySample.{KeySample}
use Rattle.lb_config_conditions.specs.CostRuleView.{CostRuleView}
use Rattle.lb_config_conditions.specs.declared.rules.AclDeclaration.{AclDeclaration}
use Rattle.lb_config_conditions.specs.declared.rules.BackendRule.{BackendRule}
use Rattle.lb_config_conditions.specs.declared.rules.ServerRule.{ServerRule}
use Rattle.lb_config_parameters.specs.TableViews.{StickTableView}

-- the lines of each kind in their order; of `stick-table` and of `stick on` the last one
pub record PartsView : Type 0 where
  pub acls : List AclDeclaration
  pub backend_rules : List BackendRule
  pub server_rules : List ServerRule
  pub cost_rules : List CostRuleView
  pub table : Option StickTableView
  pub sample : Option KeySample
