-- Rules whose names are declared are all kept.
use Rattle.std.proofs.Common.{◌≡◌, ℕ, ◌<◌, Bool, true, false, ◌||◌, nat_lt, suc, ◌≤◌, List, [], ◌∷◌, length, get_or, slice_index_or, Option, Some, None, IfSome, All, Contains, filter_map, is_some, refl, ap, ◌∙◌, arith, option_map, bytes_eq}
use Rattle.std.specs.List.{cons_option, list_any, position_or_len}
use Rattle.std.proofs.lemmas.Bool.{both_ways, cond-true, lt-ltb}
use Rattle.std.proofs.lemmas.List.Elements.{All-cons, All-head, All-nil, All-tail, All-weaker}
use Rattle.std.proofs.lemmas.List.Folds.{list_any_at}
use Rattle.std.proofs.lemmas.Slice.Eq.{bytes_eq-Decides}
use Rattle.lb_types.specs.declared.limits.TheConstants.{MAX_SERVERS}
use Rattle.lb_config_conditions.specs.declared.rules.AclDeclaration.{AclDeclaration}
use Rattle.lb_config_conditions.specs.declared.rules.BackendRule.{BackendRule}
use Rattle.lb_config_conditions.specs.declared.rules.ServerRule.{ServerRule}
use Rattle.lb_config_lines.specs.declared.setting.Setting.{Setting}
use Rattle.lb_config_lines.specs.declared.setting.Setting.TheVariants as Set
use Rattle.lb_config_rules.specs.Parts.{all_in, backend_rule_in, parts_of, server_rule_in}
use Rattle.lb_acl.specs.declared.rules.UseServer.{UseServer}
use Rattle.lb_config_rules.specs.declared.backend_choice.BackendChoice.{BackendChoice}
use Rattle.lb_config_rules.specs.Rules.{choice_of, cond_of, place_of, server_place, use_server_of, within_limit}
use Rattle.lb_config_sections.specs.SectionView.{SectionView}
use Rattle.lb_config_sections.specs.declared.config_section.NumberedSetting.{NumberedSetting}
use Rattle.lb_config_valid.specs.Names.{AreNames, HasBackend, HasServer, names_of}
use Rattle.lb_config_valid.specs.Valid.{AreValid, backends_of}
use Rattle.lb_config_whole.specs.Whole.{KeepsBackendRules, KeepsServerRules, KeepsServers}
use Rattle.lb_config_whole.proofs.Kept.{keeps_servers}

-- what stands in the list is found, one step
found_at : (b : Bool) (first name : List ℕ) (more : List (List ℕ)) → bytes_eq first name ≡ b → (b || list_any (λ other. bytes_eq other name) more) ≡ true →
    (list_any (λ other. bytes_eq other name) more ≡ true → position_or_len (λ other. bytes_eq other name) more < length more) →
    position_or_len (λ other. bytes_eq other name) (first ∷ more) < length (first ∷ more)
found_at true first name more is e rest = rw is (omega arith)
found_at false first name more is e rest = let less = rest e in rw is (omega (arith, less))

found : (names : List (List ℕ)) (name : List ℕ) → list_any (λ other. bytes_eq other name) names ≡ true →
    position_or_len (λ other. bytes_eq other name) names < length names
found [] name e = absurd (both_ways false refl e)
found (first ∷ more) name e = found_at (bytes_eq first name) first name more refl e (found more name)

-- so its place is given
placed : (names : List (List ℕ)) (name : List ℕ) → Contains names name → place_of names name ≡ Some (position_or_len (λ other. bytes_eq other name) names)
placed names name is =
    let any = list_any_at (λ other. bytes_eq other name) names is.0 name is.1 ((bytes_eq-Decides (get_or names is.0 name) name).1 is.2) in
    cond-true (nat_lt (position_or_len (λ other. bytes_eq other name) names) (length names)) _ None
    (lt-ltb (position_or_len (λ other. bytes_eq other name) names) (length names) (found names name any))

backend_kept : (backends : List (List ℕ)) (acls : List AclDeclaration) (rule : BackendRule) → Contains backends rule.backend → is_some (choice_of backends acls rule) ≡ true
backend_kept backends acls rule is =
    ap (λ place. is_some {T = BackendChoice} (option_map (λ backend. record { backend = backend; cond = option_map (cond_of acls) rule.cond }) place)) (placed backends rule.backend is)

server_kept : (servers : List (List ℕ)) (acls : List AclDeclaration) (rule : ServerRule) → length servers ≤ MAX_SERVERS → Contains servers rule.server →
    is_some (use_server_of servers acls rule) ≡ true
server_kept servers acls rule few is =
    let place = position_or_len (λ other. bytes_eq other rule.server) servers in
    let any = list_any_at (λ other. bytes_eq other rule.server) servers is.0 rule.server is.1 ((bytes_eq-Decides (get_or servers is.0 rule.server) rule.server).1 is.2) in
    let less = found servers rule.server any in
    let within : server_place servers rule.server ≡ Some place =
    ap within_limit (placed servers rule.server is) ∙ cond-true (nat_lt place MAX_SERVERS) (Some place) None (lt-ltb place MAX_SERVERS (omega (arith, less, few))) in
    ap (λ given. is_some {T = UseServer} (option_map (λ server. record { server = server; cond = cond_of acls rule.cond }) given)) within

-- nothing falls out of a list
all_there : {Y : Type 0} (o : Option Y) (rest : List Y) (n : ℕ) → is_some o ≡ true → length rest ≡ n → length (cons_option o rest) ≡ suc n
all_there None rest n there e = absurd (both_ways false refl there)
all_there (Some y) rest n there e = ap suc e

none_left_out : {X Y : Type 0} (h : X → Option Y) (xs : List X) → All (λ x. is_some (h x) ≡ true) xs → length (filter_map h xs) ≡ length xs
none_left_out h [] all = refl
none_left_out h (x ∷ more) all =
    all_there (h x) (filter_map h more) (length more) (All-head (λ one. is_some (h one) ≡ true) x more all)
    (none_left_out h more (All-tail (λ one. is_some (h one) ≡ true) x more all))

-- what holds of the settings holds of what they say
of_each : {A : Type 0} (P : A → Type 0) (kind : Setting → Option A) (Q : Setting → Type 0) → ((setting : Setting) → Q setting → IfSome (kind setting) P) →
    (settings : List NumberedSetting) → All (λ numbered. Q numbered.setting) settings → All P (all_in kind settings)
of_each {A} P kind Q is [] all = All-nil P
of_each {A} P kind Q is (numbered ∷ more) all =
    go (kind numbered.setting) (is numbered.setting (All-head (λ (one : NumberedSetting). Q one.setting) numbered more all))
    (of_each P kind Q is more (All-tail (λ (one : NumberedSetting). Q one.setting) numbered more all))
  where
    go : (o : Option A) → IfSome o P → All P (all_in kind more) → All P (cons_option o (all_in kind more))
    go None so rest = rest
    go (Some x) so rest = All-cons P x (all_in kind more) so rest

backend_named : (backends : List (List ℕ)) (setting : Setting) → HasBackend backends setting → IfSome (backend_rule_in setting) (λ rule. Contains backends rule.backend)
backend_named backends (Set.UseBackend rule) is = is
backend_named backends _ is = tt

server_named : (servers : List (List ℕ)) (setting : Setting) → HasServer servers setting → IfSome (server_rule_in setting) (λ rule. Contains servers rule.server)
server_named servers (Set.UseServer rule) is = is
server_named servers _ is = tt

keeps_backend_rules : (sections : List SectionView) (section : SectionView) → All (λ numbered. HasBackend (backends_of sections) numbered.setting) section.settings →
    KeepsBackendRules sections section
keeps_backend_rules sections section named =
    let backends = backends_of sections in
    let acls = (parts_of section.settings).acls in
    none_left_out (choice_of backends acls) (all_in backend_rule_in section.settings)
    (All-weaker (λ (rule : BackendRule). Contains backends rule.backend) (λ rule. is_some (choice_of backends acls rule) ≡ true) (backend_kept backends acls)
    (all_in backend_rule_in section.settings)
    (of_each (λ (rule : BackendRule). Contains backends rule.backend) backend_rule_in (HasBackend backends) (backend_named backends) section.settings named))

keeps_server_rules : (section : SectionView) → AreNames MAX_SERVERS (names_of section).servers →
    All (λ numbered. HasServer (names_of section).servers numbered.setting) section.settings → KeepsServerRules section
keeps_server_rules section are named defaults =
    let servers = (names_of section).servers in
    let acls = (parts_of section.settings).acls in
    let kept : length (filter_map (use_server_of servers acls) (all_in server_rule_in section.settings)) ≡ length (all_in server_rule_in section.settings) =
    none_left_out (use_server_of servers acls) (all_in server_rule_in section.settings)
    (All-weaker (λ (rule : ServerRule). Contains servers rule.server) (λ rule. is_some (use_server_of servers acls rule) ≡ true) (λ rule. server_kept servers acls rule are.few)
    (all_in server_rule_in section.settings)
    (of_each (λ (rule : ServerRule). Contains servers rule.server) server_rule_in (HasServer servers) (server_named servers) section.settings named)) in
    ap (λ names. length (filter_map (use_server_of names acls) (all_in server_rule_in section.settings))) (keeps_servers section are defaults) ∙ kept

pub servers_of_sections : (sections : List SectionView) → AreValid sections → All KeepsServers sections
servers_of_sections sections are = All-weaker (λ section. AreNames MAX_SERVERS (names_of section).servers) KeepsServers keeps_servers sections are.servers

pub server_rules_of_sections : (sections : List SectionView) → AreValid sections → All KeepsServerRules sections
server_rules_of_sections sections are = λ k d within.
    keeps_server_rules (slice_index_or sections k d) (are.servers k d within) (are.named_servers k d within)

pub backend_rules_of_sections : (sections : List SectionView) → AreValid sections → All (KeepsBackendRules sections) sections
backend_rules_of_sections sections are = λ k d within. keeps_backend_rules sections (slice_index_or sections k d) (are.named_backends k d within)
