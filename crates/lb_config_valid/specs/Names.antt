-- What lines name: HAProxy Configuration Manual 2.8, section 4.2 (`use_backend`, `default_backend`, `use-server`, `stick on`) and section
-- 7.2 (conditions).
use Rattle.std.specs.Prelude.{◌≡◌, ◌≢◌, ◌≤◌, ℕ, true, List, length, IfSome, All, AllPairs, Contains, ⊤}
use Rattle.lb_config_conditions.specs.UnresolvedCondView.{UnresolvedCondView}
use Rattle.lb_config_conditions.specs.declared.unresolved.UnresolvedAcl.{UnresolvedAcl}
use Rattle.lb_config_conditions.specs.declared.unresolved.UnresolvedAcl.TheVariants as Acl
use Rattle.lb_config_lines.specs.declared.setting.Setting.{Setting}
use Rattle.lb_config_lines.specs.declared.setting.Setting.TheVariants as Set
use Rattle.lb_config_sections.specs.Names.{names_in}
use Rattle.lb_config_sections.specs.SectionNamesView.{SectionNamesView}
use Rattle.lb_config_sections.specs.SectionView.{SectionView}

-- at most so many names, and no name twice
pub record AreNames (most : ℕ) (names : List (List ℕ)) : Type 0 where
  pub few : length names ≤ most
  pub distinct : AllPairs (λ a b. a ≢ b) names

-- what a section's lines may use: its ACLs, its servers, its table
abbrev pub names_of : SectionView → SectionNamesView
names_of section = names_in section.settings

-- the backend that the setting names is one of these
abbrev pub HasBackend : List (List ℕ) → Setting → Type 0
HasBackend backends (Set.UseBackend rule) = Contains backends rule.backend
HasBackend backends (Set.DefaultBackend name) = Contains backends name
HasBackend backends _ = ⊤

-- the server that the setting names is one of these
abbrev pub HasServer : List (List ℕ) → Setting → Type 0
HasServer servers (Set.UseServer rule) = Contains servers rule.server
HasServer servers _ = ⊤

-- the ACL of a test is one of these, or stands between braces
abbrev pub HasAcl : List (List ℕ) → UnresolvedAcl → Type 0
HasAcl acls (Acl.Named name) = Contains acls name
HasAcl acls (Acl.Anonymous line) = ⊤

-- each test of the condition has its ACL
abbrev pub HasCondAcls : List (List ℕ) → UnresolvedCondView → Type 0
HasCondAcls acls cond = All (λ terms. All (λ term. HasAcl acls term.acl) terms) cond.alternatives

-- each ACL that the setting names is one of these
abbrev pub HasAcls : List (List ℕ) → Setting → Type 0
HasAcls acls (Set.UseBackend rule) = IfSome rule.cond (HasCondAcls acls)
HasAcls acls (Set.UseServer rule) = HasCondAcls acls rule.cond
HasAcls acls (Set.PinCost rule) = HasCondAcls acls rule.cond
HasAcls acls _ = ⊤

-- a key is taken only where there is a table
abbrev pub HasTable : SectionNamesView → Setting → Type 0
HasTable names (Set.StickOn sample) = names.has_table ≡ true
HasTable names _ = ⊤
