-- Conditions and rules are the same, looked up among the groups or among the lines.
use Rattle.std.proofs.Common.{◌≡◌, ℕ, List, [], ◌∷◌, map, Option, Some, None, refl, ap, ◌∙◌}
use Rattle.std.specs.List.{cons_option, filter_map}
use Rattle.std.specs.Option.{option_map}
use Rattle.lb_config_conditions.specs.CostRuleView.{CostRuleView}
use Rattle.lb_config_conditions.specs.UnresolvedCondView.{UnresolvedCondView}
use Rattle.lb_config_conditions.specs.declared.rules.AclDeclaration.{AclDeclaration}
use Rattle.lb_config_conditions.specs.declared.rules.BackendRule.{BackendRule}
use Rattle.lb_config_conditions.specs.declared.rules.ServerRule.{ServerRule}
use Rattle.lb_config_conditions.specs.declared.unresolved.UnresolvedAcl.{UnresolvedAcl}
use Rattle.lb_config_conditions.specs.declared.unresolved.UnresolvedAcl.TheVariants.{Named, Anonymous}
use Rattle.lb_config_conditions.specs.declared.unresolved.UnresolvedTerm.{UnresolvedTerm}
use Rattle.lb_config_rules.specs.Groups.{acl_by, cond_by, term_by, terms_by, with_lines}
use Rattle.lb_config_rules.specs.Resolved.{choice_by, pin_cost_by, use_server_by}
use Rattle.lb_config_rules.specs.Rules.{acl_of, choice_of, cond_of, pin_cost_of, place_of, server_place, term_of, terms_of, use_server_of}
use Rattle.lb_config_rules.proofs.GroupLaws.{lines_all}

map_same : {X Y : Type 0} (f g : X → Y) → ((x : X) → f x ≡ g x) → (xs : List X) → map f xs ≡ map g xs
map_same f g same [] = refl
map_same f g same (x ∷ xs) = ap (λ y. y ∷ map f xs) (same x) ∙ ap (λ ys. g x ∷ ys) (map_same f g same xs)

filter_map_same : {X Y : Type 0} (f g : X → Option Y) → ((x : X) → f x ≡ g x) → (xs : List X) → filter_map f xs ≡ filter_map g xs
filter_map_same f g same [] = refl
filter_map_same f g same (x ∷ xs) =
    ap (λ o. cons_option o (filter_map f xs)) (same x) ∙ ap (λ ys. cons_option (g x) ys) (filter_map_same f g same xs)

acl_same : (acls : List AclDeclaration) (acl : UnresolvedAcl) → acl_by (with_lines [] acls) acl ≡ acl_of acls acl
acl_same acls (Named name) = lines_all acls name
acl_same acls (Anonymous line) = refl

term_same : (acls : List AclDeclaration) (term : UnresolvedTerm) → term_by (with_lines [] acls) term ≡ term_of acls term
term_same acls term = ap (λ lines. record { is_negated = term.is_negated; lines = lines }) (acl_same acls term.acl)

terms_same : (acls : List AclDeclaration) (terms : List UnresolvedTerm) → terms_by (with_lines [] acls) terms ≡ terms_of acls terms
terms_same acls terms = map_same (term_by (with_lines [] acls)) (term_of acls) (term_same acls) terms

cond_same : (acls : List AclDeclaration) (cond : UnresolvedCondView) → cond_by (with_lines [] acls) cond ≡ cond_of acls cond
cond_same acls cond =
    ap (λ alternatives. record { polarity = cond.polarity; alternatives = alternatives })
    (map_same (terms_by (with_lines [] acls)) (terms_of acls) (terms_same acls) cond.alternatives)

optional_same : (acls : List AclDeclaration) (cond : Option UnresolvedCondView) → option_map (cond_by (with_lines [] acls)) cond ≡ option_map (cond_of acls) cond
optional_same acls None = refl
optional_same acls (Some cond) = ap (λ c. Some c) (cond_same acls cond)

choice_same : (backends : List (List ℕ)) (acls : List AclDeclaration) (rule : BackendRule) → choice_by backends (with_lines [] acls) rule ≡ choice_of backends acls rule
choice_same backends acls rule =
    ap (λ cond. option_map (λ backend. record { backend = backend; cond = cond }) (place_of backends rule.backend)) (optional_same acls rule.cond)

use_server_same : (servers : List (List ℕ)) (acls : List AclDeclaration) (rule : ServerRule) → use_server_by servers (with_lines [] acls) rule ≡ use_server_of servers acls rule
use_server_same servers acls rule =
    ap (λ cond. option_map (λ server. record { server = server; cond = cond }) (server_place servers rule.server)) (cond_same acls rule.cond)

pin_cost_same : (acls : List AclDeclaration) (rule : CostRuleView) → pin_cost_by (with_lines [] acls) rule ≡ pin_cost_of acls rule
pin_cost_same acls rule = ap (λ cond. record { cost = rule.cost; cond = cond }) (cond_same acls rule.cond)

-- rules `use_backend`
pub choices_same : (backends : List (List ℕ)) (acls : List AclDeclaration) (rules : List BackendRule) →
    filter_map (choice_by backends (with_lines [] acls)) rules ≡ filter_map (choice_of backends acls) rules
choices_same backends acls rules =
    filter_map_same (choice_by backends (with_lines [] acls)) (choice_of backends acls) (choice_same backends acls) rules

-- rules `use-server`
pub use_servers_same : (servers : List (List ℕ)) (acls : List AclDeclaration) (rules : List ServerRule) →
    filter_map (use_server_by servers (with_lines [] acls)) rules ≡ filter_map (use_server_of servers acls) rules
use_servers_same servers acls rules =
    filter_map_same (use_server_by servers (with_lines [] acls)) (use_server_of servers acls) (use_server_same servers acls) rules

-- rules `pin-cost`
pub pin_costs_same : (acls : List AclDeclaration) (rules : List CostRuleView) →
    map (pin_cost_by (with_lines [] acls)) rules ≡ map (pin_cost_of acls) rules
pin_costs_same acls rules = map_same (pin_cost_by (with_lines [] acls)) (pin_cost_of acls) (pin_cost_same acls) rules
