-- Rules: HAProxy Configuration Manual 2.8, `use_backend`, `use-server`. `pin-cost` is this project's own.
use Rattle.std.specs.Prelude.{Result, Ok}
use Rattle.lb_types.specs.declared.limits.TheConstants.{MAX_COST}
use Rattle.lb_config_arguments.specs.declared.fault.Fault.{Fault}
use Rattle.lb_config_arguments.specs.Faults.{◌>>=◌}
use Rattle.lb_config_arguments.specs.Numbers.{number_in}
use Rattle.lb_config_arguments.specs.Reading.{word_at, name_at}
use Rattle.lb_config_arguments.specs.Rest.{Rest}
use Rattle.lb_config_conditions.specs.declared.rules.BackendRule.{BackendRule}
use Rattle.lb_config_conditions.specs.declared.rules.ServerRule.{ServerRule}
use Rattle.lb_config_conditions.specs.CondLines.{rule_cond_at, optional_cond_at}
use Rattle.lb_config_conditions.specs.CostRuleView.{CostRuleView}

-- the words behind `use_backend`: a name, and a condition or nothing
unfoldable pub backend_rule_at : Rest → Result BackendRule Fault
backend_rule_at rest = do
  name ← name_at rest
  cond ← optional_cond_at name.1
  Ok (record { backend = name.0; cond = cond })

-- the words behind `use-server`: a name and a condition
unfoldable pub server_rule_at : Rest → Result ServerRule Fault
server_rule_at rest = do
  name ← name_at rest
  cond ← rule_cond_at name.1
  Ok (record { server = name.0; cond = cond })

-- the words behind `pin-cost`: a cost and a condition
unfoldable pub cost_rule_at : Rest → Result CostRuleView Fault
cost_rule_at rest = do
  word ← word_at rest
  cost ← number_in 1 MAX_COST word.0
  cond ← rule_cond_at word.1
  Ok (record { cost = cost; cond = cond })
