-- Nothing is left out of a valid text.
use Rattle.std.specs.Prelude.{◌≡◌, ℕ, Bool, false, IfOk, List, length, map, count_by, All, bytes_eq}
use Rattle.lb_config_lines.specs.declared.setting.Setting.{Setting}
use Rattle.lb_config_lines.specs.declared.setting.Setting.TheVariants as Set
use Rattle.lb_config_sections.specs.References.{checked_in}
use Rattle.lb_config_sections.specs.SectionView.{SectionView}
use Rattle.lb_config_rules.specs.Parts.{all_in, backend_rule_in, parts_of, server_rule_in}
use Rattle.lb_config_rules.specs.Rules.{back_rules, front_rules, lines_named}
use Rattle.lb_config_values.specs.declared.defaults.Defaults.{Defaults}
use Rattle.lb_config.specs.Configs.{servers_of}
use Rattle.lb_config_valid.specs.Names.{names_of}
use Rattle.lb_config_valid.specs.Valid.{backends_of}

-- the names of the servers that a section gives
abbrev pub kept_names : Defaults → SectionView → List (List ℕ)
kept_names defaults section = map (λ server. server.name) (servers_of defaults section.settings)

-- the servers are those that the lines declare, in their order
abbrev pub KeepsServers : SectionView → Type 0
KeepsServers section = (defaults : Defaults) → kept_names defaults section ≡ (names_of section).servers

-- there are as many rules as lines `use-server`
abbrev pub KeepsServerRules : SectionView → Type 0
KeepsServerRules section =
    (defaults : Defaults) → length (back_rules (kept_names defaults section) section.settings).use_servers ≡ length (all_in server_rule_in section.settings)

-- there are as many rules as lines `use_backend`
abbrev pub KeepsBackendRules : List SectionView → SectionView → Type 0
KeepsBackendRules sections section =
    length (front_rules (backends_of sections) section.settings).choices ≡ length (all_in backend_rule_in section.settings)

-- the setting is a line of the ACL of this name
abbrev pub is_line_of : List ℕ → Setting → Bool
is_line_of name (Set.Acl acl) = bytes_eq acl.name name
is_line_of name _ = false

-- an ACL has as many lines as lines `acl` have its name, wherever they stand in the section
abbrev pub KeepsAclLines : SectionView → Type 0
KeepsAclLines section =
    (name : List ℕ) → length (lines_named (parts_of section.settings).acls name) ≡ count_by (λ numbered. is_line_of name numbered.setting) section.settings

-- so it is in each section of each text without a fault
abbrev pub OfEachSection : (List SectionView → SectionView → Type 0) → Type 0
OfEachSection P = (text : List ℕ) → IfOk (checked_in text) (λ checked. All (P checked.sections) checked.sections)
