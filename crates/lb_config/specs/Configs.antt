-- The configuration that the sections of a text stand for: HAProxy Configuration Manual 2.8, sections 2.5, 3 and 4. A `defaults`
-- section gives values to the sections behind it up to the next `defaults`, which starts anew. A `listen` section is a frontend and
-- a backend. That names are declared, and once, is checked before.
use Rattle.std.specs.Prelude.{ℕ, List, [], ◌∷◌, ◌++◌, map, Option, Some, None, Result, Ok, unwrap_or, if◌then◌else◌}
use Rattle.std.specs.List.{filter_map}
use Rattle.std.specs.Option.{option_map, option_or, option_to_list}
use Rattle.check_workers_rule.specs.CheckRequests.{CheckLine}
use Rattle.lb_types.specs.declared.balance.Balance.TheVariants.{RoundRobin}
use Rattle.lb_config_lines.specs.declared.setting.Setting.{Setting}
use Rattle.lb_config_keywords.specs.declared.section.Section.{Section}
use Rattle.lb_config_keywords.specs.declared.section.Section.TheVariants as Kind
use Rattle.lb_config_keywords.specs.Sections.{is_back, is_front}
use Rattle.lb_config_sections.specs.Names.{backend_name}
use Rattle.lb_config_sections.specs.References.{checked_in}
use Rattle.lb_config_rules.specs.Parts.{table_in}
use Rattle.lb_config_rules.specs.Rules.{back_rules, front_rules, place_of}
use Rattle.lb_config_sections.specs.Causes.{◌>>=◌}
use Rattle.lb_config_sections.specs.SectionView.{SectionView}
use Rattle.lb_config_sections.specs.SectionsView.{SectionsView}
use Rattle.lb_config_sections.specs.declared.cause.LocatedFault.{LocatedFault}
use Rattle.lb_config_sections.specs.declared.config_section.NumberedSetting.{NumberedSetting}
use Rattle.lb_config_values.specs.DefaultsLines.{defaults_of, no_defaults}
use Rattle.lb_config_values.specs.GlobalsView.{GlobalsView}
use Rattle.lb_config_values.specs.ServerView.{ServerView}
use Rattle.lb_config_values.specs.Servers.{servers_behind}
use Rattle.lb_config_values.specs.Values.{check_line_in, globals_behind, last_said, no_globals, values_behind}
use Rattle.lb_config_values.specs.declared.defaults.Defaults.{Defaults}
use Rattle.lb_config_values.specs.declared.proxy_values.ProxyValues.{ProxyValues}
use Rattle.lb_config.specs.BasisView.{BasisView}
use Rattle.lb_config.specs.Kept.{kept_behind}
use Rattle.lb_config.specs.ConfigViews.{BackendView, ConfigView, FrontendView}

-- the lines of sections `global` add up
abbrev pub with_global_section : GlobalsView → Section → List NumberedSetting → GlobalsView
with_global_section globals Kind.Global settings = globals_behind globals settings
with_global_section globals _ settings = globals

abbrev pub globals_in : GlobalsView → List SectionView → GlobalsView
globals_in globals [] = globals
globals_in globals (section ∷ more) = globals_in (with_global_section globals section.header.section section.settings) more

-- what a proxy's section says of single values, else the `defaults` before it
abbrev pub values_of : Defaults → List NumberedSetting → ProxyValues
values_of defaults settings = values_behind defaults.values settings

-- the request line of its checks, by the last `option httpchk`
abbrev pub check_line_of : Defaults → List NumberedSetting → Option CheckLine
check_line_of defaults settings = last_said defaults.check check_line_in settings

-- the size of the table that the setting is
abbrev pub size_in : Setting → Option ℕ
size_in setting = option_map (λ table. table.size) (table_in setting)

-- how many pins a server may hold of which no `maxpins` is said: as many as the section's table, wherever it stands
abbrev pub max_pins_of : List NumberedSetting → ℕ
max_pins_of settings = unwrap_or (last_said None size_in settings) 0

-- the servers of a section
abbrev pub servers_of : Defaults → List NumberedSetting → List ServerView
servers_of defaults settings =
    kept_behind [] (servers_behind (max_pins_of settings) (check_line_of defaults settings) defaults.servers settings)

-- a section with servers
abbrev pub backend_of : BasisView → Defaults → List ℕ → List NumberedSetting → BackendView
backend_of basis defaults name settings = record {
  name = name;
  balance = unwrap_or (values_of defaults settings).balance RoundRobin;
  all_backups = (values_of defaults settings).all_backups;
  evacuate = (values_of defaults settings).evacuate;
  forward_for = (values_of defaults settings).forward_for;
  timeouts = (values_of defaults settings).timeouts;
  journal = basis.journal;
  servers = servers_of defaults settings;
  rules = back_rules (map (λ server. server.name) (servers_of defaults settings)) settings;
}

-- the place of the backend of this name, if one is named
abbrev pub optional_place : List (List ℕ) → Option (List ℕ) → Option ℕ
optional_place backends None = None
optional_place backends (Some name) = place_of backends name

-- the backend that a section is beside: a `listen` section is its own
abbrev pub own_place : List (List ℕ) → Section → List ℕ → Option ℕ
own_place backends Kind.Listen name = place_of backends name
own_place backends _ name = None

-- a section that clients reach; without `default_backend` requests go to `own`, if there is one
abbrev pub frontend_of : BasisView → Defaults → Option ℕ → List ℕ → List NumberedSetting → FrontendView
frontend_of basis defaults own name settings = record {
  name = name;
  forward_for = (values_of defaults settings).forward_for;
  client_time = (values_of defaults settings).timeouts.client;
  default_backend = option_or (optional_place basis.backends (values_of defaults settings).default_backend) own;
  rules = front_rules basis.backends settings;
}

-- the frontend that a section is, and the backend, if it is one
abbrev pub front_at : BasisView → Defaults → Section → Option (List ℕ) → List NumberedSetting → Option FrontendView
front_at basis defaults kind None settings = None
front_at basis defaults kind (Some name) settings =
    if is_front kind then Some (frontend_of basis defaults (own_place basis.backends kind name) name settings) else None

abbrev pub back_at : BasisView → Defaults → Section → Option (List ℕ) → List NumberedSetting → Option BackendView
back_at basis defaults kind None settings = None
back_at basis defaults kind (Some name) settings = if is_back kind then Some (backend_of basis defaults name settings) else None

-- what the last `defaults` section says: the next one starts anew
abbrev pub defaults_behind : Defaults → Section → List NumberedSetting → Defaults
defaults_behind defaults Kind.Defaults settings = defaults_of settings
defaults_behind defaults _ settings = defaults

-- the frontends of the sections, each by the `defaults` before it
abbrev pub frontends_behind : BasisView → Defaults → List SectionView → List FrontendView
frontends_behind basis defaults [] = []
frontends_behind basis defaults (section ∷ more) =
    option_to_list (front_at basis defaults section.header.section section.header.name section.settings)
    ++ frontends_behind basis (defaults_behind defaults section.header.section section.settings) more

-- the backends of the sections, each by the `defaults` before it
abbrev pub backends_behind : BasisView → Defaults → List SectionView → List BackendView
backends_behind basis defaults [] = []
backends_behind basis defaults (section ∷ more) =
    option_to_list (back_at basis defaults section.header.section section.header.name section.settings)
    ++ backends_behind basis (defaults_behind defaults section.header.section section.settings) more

-- what all sections say of the whole program
abbrev pub globals_of : List SectionView → GlobalsView
globals_of sections = globals_in no_globals sections

abbrev pub basis_of : List SectionView → BasisView
basis_of sections = record {
  backends = filter_map backend_name sections;
  journal = unwrap_or (globals_of sections).journal 100000;
}

-- the configuration of the sections
unfoldable pub config_of : SectionsView → ConfigView
config_of sections = record {
  relays = unwrap_or (globals_of sections.sections).relays 8;
  tries = unwrap_or (globals_of sections.sections).tries 8;
  socket = (globals_of sections.sections).socket;
  frontends = frontends_behind (basis_of sections.sections) no_defaults sections.sections;
  backends = backends_behind (basis_of sections.sections) no_defaults sections.sections;
  warnings = sections.warnings;
}

-- the configuration that the text is, or its first fault
unfoldable pub config_in : List ℕ → Result ConfigView LocatedFault
config_in text = checked_in text >>= λ sections. Ok (config_of sections)
