-- Places of backends and servers that rules name.
use Rattle.std.proofs.Common.{◌≡◌, ℕ, ◌<◌, nat_lt, List, [], ◌∷◌, ◌++◌, length, map, Option, Some, None, IfSome, All, filter_map, refl, ap, subst, ◌∙◌, option_map, option_to_list, bytes_eq}
use Rattle.std.specs.List.{cons_option, position_or_len}
use Rattle.std.specs.Option.{option_or}
use Rattle.std.proofs.lemmas.Bool.{cond_both, ltb-true}
use Rattle.std.proofs.lemmas.List.{length-map, map-append}
use Rattle.std.proofs.lemmas.List.Elements.{All-append, All-cons, All-nil}
use Rattle.lb_types.specs.declared.limits.TheConstants.{MAX_SERVERS}
use Rattle.lb_acl.specs.HeadView.{HeadView}
use Rattle.lb_acl.specs.declared.rules.UseServer.{UseServer}
use Rattle.lb_config_conditions.specs.declared.rules.AclDeclaration.{AclDeclaration}
use Rattle.lb_config_conditions.specs.declared.rules.BackendRule.{BackendRule}
use Rattle.lb_config_conditions.specs.declared.rules.ServerRule.{ServerRule}
use Rattle.lb_config_keywords.specs.declared.section.Section.{Section}
use Rattle.lb_config_keywords.specs.declared.section.Section.TheVariants as Kind
use Rattle.lb_config_keywords.specs.Sections.{is_back, is_front}
use Rattle.lb_config_rules.specs.Choices.{applies, chosen}
use Rattle.lb_config_rules.specs.Parts.{parts_of}
use Rattle.lb_config_rules.specs.Rules.{choice_of, cond_of, place_of, server_place, use_server_of, within_limit}
use Rattle.lb_config_rules.specs.declared.backend_choice.BackendChoice.{BackendChoice}
use Rattle.lb_config_sections.specs.Names.{backend_name, gathered, name_of_kind}
use Rattle.lb_config_sections.specs.SectionView.{SectionView}
use Rattle.lb_config_sections.specs.declared.config_section.NumberedSetting.{NumberedSetting}
use Rattle.lb_config_values.specs.ServerView.{ServerView}
use Rattle.lb_config_values.specs.declared.defaults.Defaults.{Defaults}
use Rattle.lb_config.specs.BasisView.{BasisView}
use Rattle.lb_config.specs.ConfigViews.{BackendView, FrontendView}
use Rattle.lb_config.specs.Configs.{back_at, backend_of, backends_behind, defaults_behind, front_at, frontend_of, frontends_behind, optional_place, own_place, servers_of, values_of}
use Rattle.lb_config.specs.ValidConfigs.{LeadsWithin, WantsOwn, names_of}
use Rattle.lb_config.proofs.Steps.{cons_first}

-- a name's place is among the names
place_within : (names : List (List ℕ)) (name : List ℕ) → IfSome (place_of names name) (λ place. place < length names)
place_within names name =
    cond_both (nat_lt (position_or_len (λ other. bytes_eq other name) names) (length names)) _ _ (λ (o : Option ℕ). IfSome o (λ place. place < length names))
    (λ e. ltb-true (position_or_len (λ other. bytes_eq other name) names) (length names) e) (λ e. tt)

optional_within : (names : List (List ℕ)) (name : Option (List ℕ)) → IfSome (optional_place names name) (λ place. place < length names)
optional_within names None = tt
optional_within names (Some name) = place_within names name

own_within : (names : List (List ℕ)) (kind : Section) (name : List ℕ) → IfSome (own_place names kind name) (λ place. place < length names)
own_within names Kind.Listen name = place_within names name
own_within names _ name = tt

either_within : (count : ℕ) (a b : Option ℕ) → IfSome a (λ place. place < count) → IfSome b (λ place. place < count) → IfSome (option_or a b) (λ place. place < count)
either_within count None b first second = second
either_within count (Some place) b first second = first

-- one rule more in front
first_within : (head : HeadView) (backends : List (List ℕ)) (acls : List AclDeclaration) (rule : BackendRule) (o : Option ℕ) (more : List BackendChoice) →
    IfSome o (λ place. place < length backends) → IfSome (chosen head more) (λ place. place < length backends) →
    IfSome (chosen head (cons_option (option_map (λ backend. record { backend = backend; cond = option_map (cond_of acls) rule.cond }) o) more)) (λ place. place < length backends)
first_within head backends acls rule None more within rest = rest
first_within head backends acls rule (Some place) more within rest =
    cond_both (applies head (record { backend = place; cond = option_map (cond_of acls) rule.cond })) _ _
    (λ (o : Option BackendChoice). IfSome (option_map (λ one. one.backend) o) (λ place. place < length backends)) (λ e. within) (λ e. rest)

chosen_within : (head : HeadView) (backends : List (List ℕ)) (acls : List AclDeclaration) (rules : List BackendRule) →
    IfSome (chosen head (filter_map (choice_of backends acls) rules)) (λ place. place < length backends)
chosen_within head backends acls [] = tt
chosen_within head backends acls (rule ∷ more) =
    first_within head backends acls rule (place_of backends rule.backend) (filter_map (choice_of backends acls) more) (place_within backends rule.backend)
    (chosen_within head backends acls more)

frontend_leads : (basis : BasisView) (defaults : Defaults) (own : Option ℕ) (name : List ℕ) (settings : List NumberedSetting) →
    IfSome own (λ place. place < length basis.backends) → LeadsWithin (length basis.backends) (frontend_of basis defaults own name settings)
frontend_leads basis defaults own name settings within head =
    either_within (length basis.backends) (chosen head (frontend_of basis defaults own name settings).rules.choices) (frontend_of basis defaults own name settings).default_backend
    (chosen_within head basis.backends (parts_of settings).acls (parts_of settings).backend_rules)
    (either_within (length basis.backends) (optional_place basis.backends (values_of defaults settings).default_backend) own
    (optional_within basis.backends (values_of defaults settings).default_backend) within)

front_leads : (basis : BasisView) (defaults : Defaults) (kind : Section) (name : Option (List ℕ)) (settings : List NumberedSetting) →
    All (LeadsWithin (length basis.backends)) (option_to_list (front_at basis defaults kind name settings))
front_leads basis defaults kind None settings = All-nil (LeadsWithin (length basis.backends))
front_leads basis defaults kind (Some name) settings =
    cond_both (is_front kind) _ _ (λ (o : Option FrontendView). All (LeadsWithin (length basis.backends)) (option_to_list o))
    (λ e. All-cons (LeadsWithin (length basis.backends)) (frontend_of basis defaults (own_place basis.backends kind name) name settings) []
    (frontend_leads basis defaults (own_place basis.backends kind name) name settings (own_within basis.backends kind name))
    (All-nil (LeadsWithin (length basis.backends))))
    (λ e. All-nil (LeadsWithin (length basis.backends)))

pub frontends_lead : (basis : BasisView) (defaults : Defaults) (sections : List SectionView) → All (LeadsWithin (length basis.backends)) (frontends_behind basis defaults sections)
frontends_lead basis defaults [] = All-nil (LeadsWithin (length basis.backends))
frontends_lead basis defaults (section ∷ more) =
    All-append (LeadsWithin (length basis.backends)) (option_to_list (front_at basis defaults section.header.section section.header.name section.settings))
    (frontends_behind basis (defaults_behind defaults section.header.section section.settings) more)
    (front_leads basis defaults section.header.section section.header.name section.settings)
    (frontends_lead basis (defaults_behind defaults section.header.section section.settings) more)

-- a server's place is among the servers
server_within : (names : List (List ℕ)) (o : Option ℕ) → IfSome o (λ place. place < length names) → IfSome (within_limit o) (λ place. place < length names)
server_within names None within = tt
server_within names (Some place) within = cond_both (nat_lt place MAX_SERVERS) _ _ (λ (o : Option ℕ). IfSome o (λ place. place < length names)) (λ e. within) (λ e. tt)

first_wants : (names : List (List ℕ)) (acls : List AclDeclaration) (rule : ServerRule) (o : Option ℕ) (more : List UseServer) →
    IfSome o (λ place. place < length names) → All (λ (one : UseServer). one.server < length names) more →
    All (λ (one : UseServer). one.server < length names)
    (cons_option (option_map (λ server. record { server = server; cond = cond_of acls rule.cond }) o) more)
first_wants names acls rule None more within rest = rest
first_wants names acls rule (Some place) more within rest =
    All-cons (λ (one : UseServer). one.server < length names) (record { server = place; cond = cond_of acls rule.cond }) more within rest

rules_want : (names : List (List ℕ)) (acls : List AclDeclaration) (rules : List ServerRule) →
    All (λ (one : UseServer). one.server < length names) (filter_map (use_server_of names acls) rules)
rules_want names acls [] = All-nil (λ (one : UseServer). one.server < length names)
rules_want names acls (rule ∷ more) =
    first_wants names acls rule (server_place names rule.server) (filter_map (use_server_of names acls) more)
    (server_within names (place_of names rule.server) (place_within names rule.server)) (rules_want names acls more)

backend_wants : (basis : BasisView) (defaults : Defaults) (name : List ℕ) (settings : List NumberedSetting) → WantsOwn (backend_of basis defaults name settings)
backend_wants basis defaults name settings =
    let servers = servers_of defaults settings in
    subst (λ count. All (λ (one : UseServer). one.server < count) (backend_of basis defaults name settings).rules.use_servers)
    (length-map servers (λ (server : ServerView). server.name))
    (rules_want (map (λ server. server.name) servers) (parts_of settings).acls (parts_of settings).server_rules)

-- so it is with each backend, if it is with every section that may be one
backends_ok : (P : BackendView → Type 0) (basis : BasisView) →
    ((defaults : Defaults) (name : List ℕ) (settings : List NumberedSetting) → P (backend_of basis defaults name settings)) →
    (defaults : Defaults) (sections : List SectionView) → All P (backends_behind basis defaults sections)
backends_ok P basis is defaults [] = All-nil P
backends_ok P basis is defaults (section ∷ more) =
    All-append P (option_to_list (back_at basis defaults section.header.section section.header.name section.settings))
    (backends_behind basis (defaults_behind defaults section.header.section section.settings) more)
    (one section.header.name) (backends_ok P basis is (defaults_behind defaults section.header.section section.settings) more)
  where
    one : (name : Option (List ℕ)) → All P (option_to_list (back_at basis defaults section.header.section name section.settings))
    one None = All-nil P
    one (Some name) =
        cond_both (is_back section.header.section) _ _ (λ (o : Option BackendView). All P (option_to_list o))
        (λ e. All-cons P (backend_of basis defaults name section.settings) [] (is defaults name section.settings) (All-nil P)) (λ e. All-nil P)

pub backends_want : (basis : BasisView) (defaults : Defaults) (sections : List SectionView) → All WantsOwn (backends_behind basis defaults sections)
backends_want basis defaults sections = backends_ok WantsOwn basis (backend_wants basis) defaults sections

-- the names of the backends are those of the sections
own_name : (basis : BasisView) (defaults : Defaults) (kind : Section) (name : Option (List ℕ)) (settings : List NumberedSetting) →
    names_of (option_to_list (back_at basis defaults kind name settings)) ≡ option_to_list (name_of_kind kind name)
own_name basis defaults Kind.Global None settings = refl
own_name basis defaults Kind.Defaults None settings = refl
own_name basis defaults Kind.Frontend None settings = refl
own_name basis defaults Kind.Backend None settings = refl
own_name basis defaults Kind.Listen None settings = refl
own_name basis defaults Kind.Global (Some name) settings = refl
own_name basis defaults Kind.Defaults (Some name) settings = refl
own_name basis defaults Kind.Frontend (Some name) settings = refl
own_name basis defaults Kind.Backend (Some name) settings = refl
own_name basis defaults Kind.Listen (Some name) settings = refl

pub names_are : (basis : BasisView) (defaults : Defaults) (sections : List SectionView) → names_of (backends_behind basis defaults sections) ≡ gathered backend_name sections
names_are basis defaults [] = refl
names_are basis defaults (section ∷ more) =
    let next = defaults_behind defaults section.header.section section.settings in
    let one = option_to_list (back_at basis defaults section.header.section section.header.name section.settings) in
    map-append (λ (backend : BackendView). backend.name) one (backends_behind basis next more)
    ∙ ap (λ first. first ++ names_of (backends_behind basis next more)) (own_name basis defaults section.header.section section.header.name section.settings)
    ∙ ap (λ rest. option_to_list (backend_name section) ++ rest) (names_are basis next more)

pub same_names : (sections : List SectionView) → filter_map backend_name sections ≡ gathered backend_name sections
same_names [] = refl
same_names (section ∷ more) =
    cons_first (backend_name section) (filter_map backend_name more) ∙ ap (λ rest. option_to_list (backend_name section) ++ rest) (same_names more)
