-- The rules of a section with their ACLs, backends and servers: HAProxy Configuration Manual 2.8, section 4.2 (`acl`, `use_backend`,
-- `use-server`, `stick on`) and section 7.2. The lines of an ACL may stand anywhere in the section. A rule whose backend or server
-- is not declared is left out; that one is declared is checked before.
use Rattle.std.specs.Prelude.{ℕ, List, [], ◌∷◌, nat_lt, map, position, Option, Some, None, if◌then◌else◌}
use Rattle.std.specs.List.{filter_map}
use Rattle.std.specs.Option.{option_map}
use Rattle.std.specs.Str.{bytes_eq}
use Rattle.lb_types.specs.declared.limits.TheConstants.{MAX_SERVERS}
use Rattle.lb_acl.specs.CondView.{CondView}
use Rattle.lb_acl.specs.PinCostView.{PinCostView}
use Rattle.lb_acl.specs.TermView.{TermView}
use Rattle.lb_acl.specs.declared.acl.AclLine.{AclLine}
use Rattle.lb_acl.specs.declared.key.KeySample.{KeySample}
use Rattle.lb_acl.specs.declared.key.StickOn.{StickOn}
use Rattle.lb_acl.specs.declared.rules.UseServer.{UseServer}
use Rattle.lb_config_conditions.specs.CostRuleView.{CostRuleView}
use Rattle.lb_config_conditions.specs.UnresolvedCondView.{UnresolvedCondView}
use Rattle.lb_config_conditions.specs.declared.rules.AclDeclaration.{AclDeclaration}
use Rattle.lb_config_conditions.specs.declared.rules.BackendRule.{BackendRule}
use Rattle.lb_config_conditions.specs.declared.rules.ServerRule.{ServerRule}
use Rattle.lb_config_conditions.specs.declared.unresolved.UnresolvedAcl.{UnresolvedAcl}
use Rattle.lb_config_conditions.specs.declared.unresolved.UnresolvedAcl.TheVariants.{Named, Anonymous}
use Rattle.lb_config_conditions.specs.declared.unresolved.UnresolvedTerm.{UnresolvedTerm}
use Rattle.lb_config_sections.specs.declared.config_section.NumberedSetting.{NumberedSetting}
use Rattle.lb_config_parameters.specs.TableViews.{StickTableView}
use Rattle.lb_config_rules.specs.declared.backend_choice.BackendChoice.{BackendChoice}
use Rattle.lb_config_rules.specs.Parts.{all_in, bind_in, parts_of}
use Rattle.lb_config_rules.specs.PartsView.{PartsView}
use Rattle.lb_config_rules.specs.RulesView.{FrontRulesView, BackRulesView}

-- the declaration's line, if it is one of the ACL of this name
abbrev pub line_of : List ℕ → AclDeclaration → Option AclLine
line_of name acl = if bytes_eq acl.name name then Some acl.line else None

-- the lines of the ACL of this name, in their order
abbrev pub lines_named : List AclDeclaration → List ℕ → List AclLine
lines_named acls name = filter_map (line_of name) acls

-- the lines that a test asks
abbrev pub acl_of : List AclDeclaration → UnresolvedAcl → List AclLine
acl_of acls (Named name) = lines_named acls name
acl_of acls (Anonymous line) = line ∷ []

abbrev pub term_of : List AclDeclaration → UnresolvedTerm → TermView
term_of acls term = record { is_negated = term.is_negated; lines = acl_of acls term.acl }

abbrev pub terms_of : List AclDeclaration → List UnresolvedTerm → List TermView
terms_of acls terms = map (term_of acls) terms

-- the condition with the lines of its ACLs
abbrev pub cond_of : List AclDeclaration → UnresolvedCondView → CondView
cond_of acls cond = record { polarity = cond.polarity; alternatives = map (terms_of acls) cond.alternatives }

-- the place of the name among the names
abbrev pub place_of : List (List ℕ) → List ℕ → Option ℕ
place_of names name = position (λ other. bytes_eq other name) names

-- a place that a server may have: one of at most 128
abbrev pub within_limit : Option ℕ → Option ℕ
within_limit None = None
within_limit (Some place) = if nat_lt place MAX_SERVERS then Some place else None

-- the server of the name
abbrev pub server_place : List (List ℕ) → List ℕ → Option ℕ
server_place servers name = within_limit (place_of servers name)

-- a rule `use_backend` with the place of its backend
abbrev pub choice_of : List (List ℕ) → List AclDeclaration → BackendRule → Option BackendChoice
choice_of backends acls rule =
    option_map (λ backend. record { backend = backend; cond = option_map (cond_of acls) rule.cond }) (place_of backends rule.backend)

-- a rule `use-server` with the place of its server
abbrev pub use_server_of : List (List ℕ) → List AclDeclaration → ServerRule → Option UseServer
use_server_of servers acls rule =
    option_map (λ server. record { server = server; cond = cond_of acls rule.cond }) (server_place servers rule.server)

-- a rule `pin-cost`
abbrev pub pin_cost_of : List AclDeclaration → CostRuleView → PinCostView
pin_cost_of acls rule = record { cost = rule.cost; cond = cond_of acls rule.cond }

-- the key of a pin, where the section has a table
abbrev pub stick_on_of : Option StickTableView → Option KeySample → Option StickOn
stick_on_of (Some table) (Some sample) = Some (record { sample = sample; table = table.kind })
stick_on_of table sample = None

-- the rules `use_backend` of a section; `backends` are the names of all backends
abbrev pub choices_of : List (List ℕ) → PartsView → List BackendChoice
choices_of backends parts = filter_map (choice_of backends parts.acls) parts.backend_rules

-- what a section does with its servers and pins; `servers` are the names of its servers
abbrev pub back_of : List (List ℕ) → PartsView → BackRulesView
back_of servers parts = record {
  table = parts.table;
  stick_on = stick_on_of parts.table parts.sample;
  use_servers = filter_map (use_server_of servers parts.acls) parts.server_rules;
  pin_costs = map (pin_cost_of parts.acls) parts.cost_rules;
}

-- what a section of these settings does with the requests of its clients
abbrev pub front_rules : List (List ℕ) → List NumberedSetting → FrontRulesView
front_rules backends settings = record { binds = all_in bind_in settings; choices = choices_of backends (parts_of settings) }

-- what it does with its servers and pins
abbrev pub back_rules : List (List ℕ) → List NumberedSetting → BackRulesView
back_rules servers settings = back_of servers (parts_of settings)
