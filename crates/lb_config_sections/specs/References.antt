-- What lines name and others declare: HAProxy Configuration Manual 2.8, section 4.2 (`use_backend`, `default_backend`,
-- `use-server`, `stick on`) and section 7.2 ("Using ACLs to form conditions"). Lines may stand in any order.
use Rattle.std.specs.Prelude.{ℕ, Bool, true, ◌&&◌, List, [], ◌∷◌, Option, Some, None, Result, Ok, Err, if◌then◌else◌}
use Rattle.std.specs.List.{list_all}
use Rattle.std.specs.Option.{option_or, option_map}
use Rattle.lb_config_conditions.specs.UnresolvedCondView.{UnresolvedCondView}
use Rattle.lb_config_conditions.specs.declared.unresolved.UnresolvedAcl.{UnresolvedAcl}
use Rattle.lb_config_conditions.specs.declared.unresolved.UnresolvedAcl.TheVariants as Acl
use Rattle.lb_config_conditions.specs.declared.unresolved.UnresolvedTerm.{UnresolvedTerm}
use Rattle.lb_config_lines.specs.declared.setting.Setting.{Setting}
use Rattle.lb_config_lines.specs.declared.setting.Setting.TheVariants as Set
use Rattle.lb_config_sections.specs.SectionView.{SectionView}
use Rattle.lb_config_sections.specs.SectionsView.{SectionsView}
use Rattle.lb_config_sections.specs.Causes.{◌>>=◌}
use Rattle.lb_config_sections.specs.TextSections.{sections_in}
use Rattle.lb_config_sections.specs.declared.cause.Cause.{Cause}
use Rattle.lb_config_sections.specs.declared.cause.Cause.TheVariants as Of
use Rattle.lb_config_sections.specs.declared.cause.LocatedFault.{LocatedFault}
use Rattle.lb_config_sections.specs.declared.config_section.NumberedSetting.{NumberedSetting}
use Rattle.lb_config_sections.specs.Names.{gathered, has_name, backend_name, names_in}
use Rattle.lb_config_sections.specs.SectionNamesView.{SectionNamesView}

-- the ACL of the test is declared, or stands between braces
abbrev pub is_acl_known : List (List ℕ) → UnresolvedAcl → Bool
is_acl_known acls (Acl.Named name) = has_name acls name
is_acl_known acls (Acl.Anonymous line) = true

abbrev pub is_term_known : List (List ℕ) → UnresolvedTerm → Bool
is_term_known acls term = is_acl_known acls term.acl

abbrev pub are_terms_known : List (List ℕ) → List UnresolvedTerm → Bool
are_terms_known acls terms = list_all (λ term. is_term_known acls term) terms

-- each ACL that the condition names is declared
abbrev pub is_cond_known : List (List ℕ) → UnresolvedCondView → Bool
is_cond_known acls cond = list_all (λ terms. are_terms_known acls terms) cond.alternatives

abbrev pub is_optional_cond_known : List (List ℕ) → Option UnresolvedCondView → Bool
is_optional_cond_known acls (Some cond) = is_cond_known acls cond
is_optional_cond_known acls None = true

abbrev pub unless_known : Bool → Option Cause
unless_known known = if known then None else Some Of.NoSuchName

-- what is wrong with what the setting names
unfoldable pub setting_cause : List (List ℕ) → SectionNamesView → Setting → Option Cause
setting_cause backends names (Set.UseBackend rule) = unless_known (has_name backends rule.backend && is_optional_cond_known names.acls rule.cond)
setting_cause backends names (Set.DefaultBackend name) = unless_known (has_name backends name)
setting_cause backends names (Set.UseServer rule) = unless_known (has_name names.servers rule.server && is_cond_known names.acls rule.cond)
setting_cause backends names (Set.PinCost rule) = unless_known (is_cond_known names.acls rule.cond)
setting_cause backends names (Set.StickOn sample) = if names.has_table then None else Some Of.Missing
setting_cause backends names _ = None

-- the fault of the setting's line
abbrev pub numbered_fault : List (List ℕ) → SectionNamesView → NumberedSetting → Option LocatedFault
numbered_fault backends names numbered = option_map (λ cause. record { line = numbered.line; cause = cause }) (setting_cause backends names numbered.setting)

-- the first fault among settings
abbrev pub settings_fault : List (List ℕ) → SectionNamesView → List NumberedSetting → Option LocatedFault
settings_fault backends names [] = None
settings_fault backends names (numbered ∷ more) = option_or (numbered_fault backends names numbered) (settings_fault backends names more)

-- the first fault of a section
abbrev pub section_fault : List (List ℕ) → SectionView → Option LocatedFault
section_fault backends section = settings_fault backends (names_in section.settings) section.settings

-- the first fault among sections
abbrev pub sections_fault : List (List ℕ) → List SectionView → Option LocatedFault
sections_fault backends [] = None
sections_fault backends (section ∷ more) = option_or (section_fault backends section) (sections_fault backends more)

-- the first reference to nothing
unfoldable pub reference_fault : List SectionView → Option LocatedFault
reference_fault sections = sections_fault (gathered backend_name sections) sections

-- the sections, unless there is a fault
abbrev pub unless_fault : Option LocatedFault → SectionsView → Result SectionsView LocatedFault
unless_fault (Some fault) sections = Err fault
unless_fault None sections = Ok sections

-- the sections that the text is, or its first fault, references last
unfoldable pub checked_in : List ℕ → Result SectionsView LocatedFault
checked_in text = sections_in text >>= λ sections. unless_fault (reference_fault sections.sections) sections
