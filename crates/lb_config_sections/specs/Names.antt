-- Names that sections and their lines declare: HAProxy Configuration Manual 2.8, sections 4 and 4.2.
use Rattle.std.specs.Prelude.{ℕ, Bool, true, false, List, [], ◌∷◌, ◌++◌, Option, Some, None}
use Rattle.std.specs.List.{list_any}
use Rattle.std.specs.Option.{option_to_list}
use Rattle.std.specs.Str.{bytes_eq}
use Rattle.lb_config_lines.specs.declared.setting.Setting.{Setting}
use Rattle.lb_config_lines.specs.declared.setting.Setting.TheVariants as Set
use Rattle.lb_config_keywords.specs.declared.section.Section.{Section}
use Rattle.lb_config_keywords.specs.declared.section.Section.TheVariants as Kind
use Rattle.lb_config_sections.specs.SectionView.{SectionView}
use Rattle.lb_config_sections.specs.declared.config_section.NumberedSetting.{NumberedSetting}
use Rattle.lb_config_sections.specs.declared.names.Declared.{Declared}
use Rattle.lb_config_sections.specs.declared.names.Declared.TheVariants.{Acls, Servers}
use Rattle.lb_config_sections.specs.SectionNamesView.{SectionNamesView}

-- what f gives of each, where it gives something
abbrev pub gathered : {X : Type 0} → (X → Option (List ℕ)) → List X → List (List ℕ)
gathered f [] = []
gathered f (x ∷ more) = option_to_list (f x) ++ gathered f more

-- the name is among the names
abbrev pub has_name : List (List ℕ) → List ℕ → Bool
has_name names name = list_any (λ other. bytes_eq other name) names

-- the name of the ACL to which the setting adds a line
abbrev pub acl_name : Setting → Option (List ℕ)
acl_name (Set.Acl declaration) = Some declaration.name
acl_name _ = None

-- the name of the server that the setting declares
abbrev pub server_name : Setting → Option (List ℕ)
server_name (Set.Server server) = Some server.name
server_name _ = None

-- the name of this kind that the setting declares
abbrev pub setting_name : Declared → Setting → Option (List ℕ)
setting_name Acls setting = acl_name setting
setting_name Servers setting = server_name setting

-- the setting is a table
abbrev pub is_table_setting : Setting → Bool
is_table_setting (Set.StickTable table) = true
is_table_setting _ = false

-- the name where the section has servers
abbrev pub name_of_kind : Section → Option (List ℕ) → Option (List ℕ)
name_of_kind Kind.Backend name = name
name_of_kind Kind.Listen name = name
name_of_kind _ name = None

-- the name of a backend: of a section `backend` or `listen`
abbrev pub backend_name : SectionView → Option (List ℕ)
backend_name section = name_of_kind section.header.section section.header.name

-- what a section's lines may use
abbrev pub names_in : List NumberedSetting → SectionNamesView
names_in settings = record {
  acls = gathered (λ numbered. setting_name Acls numbered.setting) settings;
  servers = gathered (λ numbered. setting_name Servers numbered.setting) settings;
  has_table = list_any (λ numbered. is_table_setting numbered.setting) settings;
}
