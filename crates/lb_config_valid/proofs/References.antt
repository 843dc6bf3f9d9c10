-- What lines name is declared, where no reference is to nothing.
use Rattle.std.proofs.Common.{◌≡◌, ℕ, Bool, true, false, List, [], ◌∷◌, Option, Some, None, IfSome, All, Contains, slice_index_or, cond, refl, sym, subst, option_map, bytes_eq}
use Rattle.std.specs.List.{list_all}
use Rattle.std.specs.Option.{option_or}
use Rattle.std.proofs.lemmas.Bool.{and_parts}
use Rattle.std.proofs.lemmas.List.Elements.{All-cons, All-nil}
use Rattle.std.proofs.lemmas.List.Folds.{Any-from_list_any}
use Rattle.std.proofs.lemmas.Option.{none-some}
use Rattle.std.proofs.lemmas.Slice.Eq.{bytes_eq-Decides}
use Rattle.lb_config_conditions.specs.UnresolvedCondView.{UnresolvedCondView}
use Rattle.lb_config_conditions.specs.declared.unresolved.UnresolvedAcl.{UnresolvedAcl}
use Rattle.lb_config_conditions.specs.declared.unresolved.UnresolvedAcl.TheVariants as Acl
use Rattle.lb_config_conditions.specs.declared.unresolved.UnresolvedTerm.{UnresolvedTerm}
use Rattle.lb_config_lines.specs.declared.setting.Setting.{Setting}
use Rattle.lb_config_lines.specs.declared.setting.Setting.TheVariants as Set
use Rattle.lb_config_sections.specs.declared.cause.Cause.TheVariants as Of
use Rattle.lb_config_sections.specs.declared.config_section.NumberedSetting.{NumberedSetting}
use Rattle.lb_config_sections.specs.Names.{has_name}
use Rattle.lb_config_sections.specs.References.{are_terms_known, is_acl_known, is_cond_known, is_optional_cond_known, is_term_known, numbered_fault, section_fault, sections_fault, setting_cause, settings_fault, unless_known}
use Rattle.lb_config_sections.specs.SectionNamesView.{SectionNamesView}
use Rattle.lb_config_sections.specs.SectionView.{SectionView}
use Rattle.lb_config_valid.specs.Names.{HasAcl, HasAcls, HasBackend, HasCondAcls, HasServer, HasTable, names_of}

or_none : {T : Type 0} (a b : Option T) → option_or a b ≡ None → (a ≡ None) × (b ≡ None)
or_none None b e = (refl, e)
or_none (Some x) b e = absurd (none-some x (sym e))

map_none : {T U : Type 0} (f : T → U) (o : Option T) → option_map f o ≡ None → o ≡ None
map_none f None e = refl
map_none f (Some x) e = absurd (none-some (f x) (sym e))

is_known : (known : Bool) → unless_known known ≡ None → known ≡ true
is_known true e = refl
is_known false e = absurd (none-some Of.NoSuchName (sym e))

all_from : {X : Type 0} (P : X → Type 0) (p : X → Bool) → ((x : X) → p x ≡ true → P x) → (xs : List X) → list_all p xs ≡ true → All P xs
all_from P p from [] e = All-nil P
all_from P p from (x ∷ xs) e =
    let parts = and_parts (p x) (list_all p xs) e in
    All-cons P x xs (from x parts.0) (all_from P p from xs parts.1)

contains : (names : List (List ℕ)) (name : List ℕ) → has_name names name ≡ true → Contains names name
contains names name e =
    let found = Any-from_list_any (λ other. bytes_eq other name) names e in
    let same : found.1 ≡ name = (bytes_eq-Decides found.1 name).0 found.4 in
    (found.0, found.2, subst (λ x. slice_index_or names found.0 x ≡ x) same found.3)

acl_known : (acls : List (List ℕ)) (acl : UnresolvedAcl) → is_acl_known acls acl ≡ true → HasAcl acls acl
acl_known acls (Acl.Named name) e = contains acls name e
acl_known acls (Acl.Anonymous line) e = tt

cond_known : (acls : List (List ℕ)) (cond : UnresolvedCondView) → is_cond_known acls cond ≡ true → HasCondAcls acls cond
cond_known acls cond e =
    all_from (λ terms. All (λ (term : UnresolvedTerm). HasAcl acls term.acl) terms) (are_terms_known acls)
    (all_from (λ (term : UnresolvedTerm). HasAcl acls term.acl) (is_term_known acls) (λ term. acl_known acls term.acl)) cond.alternatives e

-- what the setting names is declared
pub record IsDeclared (backends : List (List ℕ)) (names : SectionNamesView) (setting : Setting) : Type 0 where
  pub backend : HasBackend backends setting
  pub server : HasServer names.servers setting
  pub acls : HasAcls names.acls setting
  pub table : HasTable names setting

use_backend_known : (backends : List (List ℕ)) (names : SectionNamesView) (name : List ℕ) (cond : Option UnresolvedCondView) →
    (has_name backends name ≡ true) × (is_optional_cond_known names.acls cond ≡ true) →
    Contains backends name × IfSome cond (HasCondAcls names.acls)
use_backend_known backends names name None known = (contains backends name known.0, tt)
use_backend_known backends names name (Some cond) known = (contains backends name known.0, cond_known names.acls cond known.1)

table_known : (has_table : Bool) → cond has_table None (Some Of.Missing) ≡ None → has_table ≡ true
table_known true e = refl
table_known false e = absurd (none-some Of.Missing (sym e))

declared : (backends : List (List ℕ)) (names : SectionNamesView) (setting : Setting) → setting_cause backends names setting ≡ None → IsDeclared backends names setting
unfolding setting_cause
declared backends names (Set.UseBackend rule) e =
    let known = use_backend_known backends names rule.backend rule.cond
    (and_parts (has_name backends rule.backend) (is_optional_cond_known names.acls rule.cond) (is_known _ e)) in
    record { backend = known.0; server = tt; acls = known.1; table = tt }
declared backends names (Set.DefaultBackend name) e = record { backend = contains backends name (is_known _ e); server = tt; acls = tt; table = tt }
declared backends names (Set.UseServer rule) e =
    let known = and_parts (has_name names.servers rule.server) (is_cond_known names.acls rule.cond) (is_known _ e) in
    record { backend = tt; server = contains names.servers rule.server known.0; acls = cond_known names.acls rule.cond known.1; table = tt }
declared backends names (Set.PinCost rule) e = record { backend = tt; server = tt; acls = cond_known names.acls rule.cond (is_known _ e); table = tt }
declared backends names (Set.StickOn sample) e = record { backend = tt; server = tt; acls = tt; table = table_known names.has_table e }
declared backends names _ e = record { backend = tt; server = tt; acls = tt; table = tt }

settings_declared : (backends : List (List ℕ)) (names : SectionNamesView) (settings : List NumberedSetting) → settings_fault backends names settings ≡ None →
    All (λ numbered. IsDeclared backends names numbered.setting) settings
settings_declared backends names [] e = All-nil (λ (numbered : NumberedSetting). IsDeclared backends names numbered.setting)
settings_declared backends names (numbered ∷ more) e =
    let parts = or_none (numbered_fault backends names numbered) (settings_fault backends names more) e in
    All-cons (λ (one : NumberedSetting). IsDeclared backends names one.setting) numbered more
    (declared backends names numbered.setting (map_none _ (setting_cause backends names numbered.setting) parts.0)) (settings_declared backends names more parts.1)

pub sections_declared : (backends : List (List ℕ)) (sections : List SectionView) → sections_fault backends sections ≡ None →
    All (λ section. All (λ numbered. IsDeclared backends (names_of section) numbered.setting) section.settings) sections
sections_declared backends [] e = All-nil (λ (section : SectionView). All (λ numbered. IsDeclared backends (names_of section) numbered.setting) section.settings)
sections_declared backends (section ∷ more) e =
    let parts = or_none (section_fault backends section) (sections_fault backends more) e in
    All-cons (λ (one : SectionView). All (λ numbered. IsDeclared backends (names_of one) numbered.setting) one.settings) section more
    (settings_declared backends (names_of section) section.settings parts.0) (sections_declared backends more parts.1)
