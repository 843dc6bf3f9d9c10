-- Rules whose ACLs are looked up among the groups. No public clause cites this module.
use Rattle.std.specs.Prelude.{ℕ, List, Option}
use Rattle.std.specs.Option.{option_map}
use Rattle.lb_acl.specs.PinCostView.{PinCostView}
use Rattle.lb_acl.specs.declared.rules.UseServer.{UseServer}
use Rattle.lb_config_conditions.specs.CostRuleView.{CostRuleView}
use Rattle.lb_config_conditions.specs.declared.rules.BackendRule.{BackendRule}
use Rattle.lb_config_conditions.specs.declared.rules.ServerRule.{ServerRule}
use Rattle.lb_config_rules.specs.declared.backend_choice.BackendChoice.{BackendChoice}
use Rattle.lb_config_rules.specs.GroupView.{GroupView}
use Rattle.lb_config_rules.specs.Groups.{cond_by}
use Rattle.lb_config_rules.specs.Rules.{place_of, server_place}

abbrev pub choice_by : List (List ℕ) → List GroupView → BackendRule → Option BackendChoice
choice_by backends groups rule =
    option_map (λ backend. record { backend = backend; cond = option_map (cond_by groups) rule.cond }) (place_of backends rule.backend)

abbrev pub use_server_by : List (List ℕ) → List GroupView → ServerRule → Option UseServer
use_server_by servers groups rule =
    option_map (λ server. record { server = server; cond = cond_by groups rule.cond }) (server_place servers rule.server)

abbrev pub pin_cost_by : List GroupView → CostRuleView → PinCostView
pin_cost_by groups rule = record { cost = rule.cost; cond = cond_by groups rule.cond }
