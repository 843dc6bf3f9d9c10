-- A section's lines by their kinds: HAProxy Configuration Manual 2.8, section 4.2.
use Rattle.std.specs.Prelude.{List, [], ◌∷◌, ◌++◌, Option, Some, None}
use Rattle.std.specs.List.{filter_map, last_or}
use Rattle.lb_acl.specs.declared.key.KeySample.{KeySample}
use Rattle.lb_config_arguments.specs.declared.address.Endpoint.{Endpoint}
use Rattle.lb_config_conditions.specs.CostRuleView.{CostRuleView}
use Rattle.lb_config_conditions.specs.declared.rules.AclDeclaration.{AclDeclaration}
use Rattle.lb_config_conditions.specs.declared.rules.BackendRule.{BackendRule}
use Rattle.lb_config_conditions.specs.declared.rules.ServerRule.{ServerRule}
use Rattle.lb_config_lines.specs.declared.setting.Setting.{Setting}
use Rattle.lb_config_lines.specs.declared.setting.Setting.TheVariants as Set
use Rattle.lb_config_sections.specs.declared.config_section.NumberedSetting.{NumberedSetting}
use Rattle.lb_config_parameters.specs.TableViews.{StickTableView}
use Rattle.lb_config_rules.specs.PartsView.{PartsView}

abbrev pub acl_in : Setting → Option AclDeclaration
acl_in (Set.Acl acl) = Some acl
acl_in _ = None

abbrev pub bind_in : Setting → Option Endpoint
bind_in (Set.Bind endpoint) = Some endpoint
bind_in _ = None

abbrev pub backend_rule_in : Setting → Option BackendRule
backend_rule_in (Set.UseBackend rule) = Some rule
backend_rule_in _ = None

abbrev pub server_rule_in : Setting → Option ServerRule
server_rule_in (Set.UseServer rule) = Some rule
server_rule_in _ = None

abbrev pub cost_rule_in : Setting → Option CostRuleView
cost_rule_in (Set.PinCost rule) = Some rule
cost_rule_in _ = None

abbrev pub table_in : Setting → Option StickTableView
table_in (Set.StickTable table) = Some table
table_in _ = None

abbrev pub sample_in : Setting → Option KeySample
sample_in (Set.StickOn sample) = Some sample
sample_in _ = None

-- what the settings say of one kind, in their order
abbrev pub all_in : {A : Type 0} → (Setting → Option A) → List NumberedSetting → List A
all_in kind settings = filter_map (λ numbered. kind numbered.setting) settings

-- these parts, and the settings' behind them
abbrev pub parts_behind : PartsView → List NumberedSetting → PartsView
parts_behind parts settings = record {
  acls = parts.acls ++ all_in acl_in settings;
  backend_rules = parts.backend_rules ++ all_in backend_rule_in settings;
  server_rules = parts.server_rules ++ all_in server_rule_in settings;
  cost_rules = parts.cost_rules ++ all_in cost_rule_in settings;
  table = last_or parts.table (all_in table_in settings);
  sample = last_or parts.sample (all_in sample_in settings);
}

abbrev pub no_parts : PartsView
no_parts = record {
  acls = [];
  backend_rules = [];
  server_rules = [];
  cost_rules = [];
  table = None;
  sample = None;
}

-- the parts of the settings
abbrev pub parts_of : List NumberedSetting → PartsView
parts_of settings = record {
  acls = all_in acl_in settings;
  backend_rules = all_in backend_rule_in settings;
  server_rules = all_in server_rule_in settings;
  cost_rules = all_in cost_rule_in settings;
  table = last_or None (all_in table_in settings);
  sample = last_or None (all_in sample_in settings);
}

-- What follows is for proofs alone: these parts and one setting more, or all of them
abbrev pub with_part : PartsView → Setting → PartsView
with_part parts (Set.Acl acl) = record parts { acls = parts.acls ++ acl ∷ [] }
with_part parts (Set.UseBackend rule) = record parts { backend_rules = parts.backend_rules ++ rule ∷ [] }
with_part parts (Set.UseServer rule) = record parts { server_rules = parts.server_rules ++ rule ∷ [] }
with_part parts (Set.PinCost rule) = record parts { cost_rules = parts.cost_rules ++ rule ∷ [] }
with_part parts (Set.StickTable table) = record parts { table = Some table }
with_part parts (Set.StickOn sample) = record parts { sample = Some sample }
with_part parts _ = parts

abbrev pub with_parts : PartsView → List NumberedSetting → PartsView
with_parts parts [] = parts
with_parts parts (numbered ∷ more) = with_parts (with_part parts numbered.setting) more
