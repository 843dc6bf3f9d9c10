-- The configuration of a valid text.
use Rattle.std.proofs.Common.{◌≡◌, List, [], ◌∷◌, length, IfSome, All, sym, ap, subst, ◌∙◌, arith}
use Rattle.std.proofs.lemmas.List.{length-map}
use Rattle.std.proofs.lemmas.List.Elements.{All-head, All-tail}
use Rattle.lb_config_arguments.specs.Ranges.{IsFromTo}
use Rattle.lb_config_keywords.specs.declared.section.Section.{Section}
use Rattle.lb_config_keywords.specs.declared.section.Section.TheVariants as Kind
use Rattle.lb_config_limits.specs.declared.declarations.TheConstants.{MAX_BACKENDS}
use Rattle.lb_config_lines.specs.declared.common_line.TheConstants.{MAX_JOURNAL, MAX_RELAYS, MAX_TRIES}
use Rattle.lb_config_lines.specs.declared.setting.Setting.{Setting}
use Rattle.lb_config_lines.specs.declared.setting.Setting.TheVariants as Set
use Rattle.lb_config_sections.specs.Names.{backend_name, gathered}
use Rattle.lb_config_sections.specs.SectionView.{SectionView}
use Rattle.lb_config_sections.specs.SectionsView.{SectionsView}
use Rattle.lb_config_sections.specs.declared.config_section.NumberedSetting.{NumberedSetting}
use Rattle.lb_config_values.specs.DefaultsLines.{no_defaults}
use Rattle.lb_config_values.specs.GlobalsView.{GlobalsView}
use Rattle.lb_config_values.specs.Values.{journal_in, no_globals, relays_in, socket_in, tries_in}
use Rattle.lb_config_valid.specs.Names.{AreNames}
use Rattle.lb_config_valid.specs.Numbers.{HasNumbers, IsSocket}
use Rattle.lb_config_valid.specs.Valid.{AreValid, OfEachSetting}
use Rattle.lb_config.specs.ConfigViews.{BackendView}
use Rattle.lb_config.specs.Configs.{backends_behind, basis_of, config_of, frontends_behind, globals_in, globals_of, with_global_section}
use Rattle.lb_config.specs.SaidInRange.{HaveNumbers}
use Rattle.lb_config.specs.ValidConfigs.{IsConfig, LeadsWithin, names_of}
use Rattle.lb_config.proofs.InRange.{backends_ok, frontends_ok, nothing_said}
use Rattle.lb_config.proofs.LastSaid.{last_ok, or_default}
use Rattle.lb_config.proofs.Places.{backends_want, frontends_lead, names_are, same_names}

relays_ok : (setting : Setting) → HasNumbers setting → IfSome (relays_in setting) (IsFromTo 1 MAX_RELAYS)
relays_ok (Set.Relays number) is = is
relays_ok _ is = tt

tries_ok : (setting : Setting) → HasNumbers setting → IfSome (tries_in setting) (IsFromTo 1 MAX_TRIES)
tries_ok (Set.Tries number) is = is
tries_ok _ is = tt

said_journal_ok : (setting : Setting) → HasNumbers setting → IfSome (journal_in setting) (IsFromTo 1 MAX_JOURNAL)
said_journal_ok (Set.Journal number) is = is
said_journal_ok _ is = tt

socket_ok : (setting : Setting) → HasNumbers setting → IfSome (socket_in setting) IsSocket
socket_ok (Set.StatsSocket socket) is = is
socket_ok _ is = tt

-- what is said of the whole program
record AreGlobals (globals : GlobalsView) : Type 0 where
  relays : IfSome globals.relays (IsFromTo 1 MAX_RELAYS)
  tries : IfSome globals.tries (IsFromTo 1 MAX_TRIES)
  journal : IfSome globals.journal (IsFromTo 1 MAX_JOURNAL)
  socket : IfSome globals.socket IsSocket

section_globals : (globals : GlobalsView) (kind : Section) (settings : List NumberedSetting) → HaveNumbers settings → AreGlobals globals →
    AreGlobals (with_global_section globals kind settings)
section_globals globals Kind.Global settings are is = record {
  relays = last_ok (IsFromTo 1 MAX_RELAYS) relays_in relays_ok settings are globals.relays is.relays;
  tries = last_ok (IsFromTo 1 MAX_TRIES) tries_in tries_ok settings are globals.tries is.tries;
  journal = last_ok (IsFromTo 1 MAX_JOURNAL) journal_in said_journal_ok settings are globals.journal is.journal;
  socket = last_ok IsSocket socket_in socket_ok settings are globals.socket is.socket;
}
section_globals globals _ settings are is = is

all_globals : (globals : GlobalsView) (sections : List SectionView) → OfEachSetting (λ section. HasNumbers) sections → AreGlobals globals → AreGlobals (globals_in globals sections)
all_globals globals [] are is = is
all_globals globals (section ∷ more) are is =
    all_globals (with_global_section globals section.header.section section.settings) more
    (All-tail (λ (one : SectionView). All (λ (numbered : NumberedSetting). HasNumbers numbered.setting) one.settings) section more are)
    (section_globals globals section.header.section section.settings
    (All-head (λ (one : SectionView). All (λ (numbered : NumberedSetting). HasNumbers numbered.setting) one.settings) section more are) is)

globals_ok : (sections : List SectionView) → OfEachSetting (λ section. HasNumbers) sections → AreGlobals (globals_of sections)
globals_ok sections are = all_globals no_globals sections are (record { relays = tt; tries = tt; journal = tt; socket = tt })

-- how many entries each journal keeps
pub journal_ok : (sections : List SectionView) → OfEachSetting (λ section. HasNumbers) sections → IsFromTo 1 MAX_JOURNAL (basis_of sections).journal
journal_ok sections are =
    or_default (IsFromTo 1 MAX_JOURNAL) (globals_of sections).journal 100000 (globals_ok sections are).journal (omega arith, omega arith)

pub config_is_valid : (sections : SectionsView) → AreValid sections.sections → IsConfig (config_of sections)
unfolding config_of
config_is_valid sections are =
    let all = sections.sections in
    let basis = basis_of all in
    let globals : AreGlobals (globals_of all) = globals_ok all are.numbers in
    let names : names_of (backends_behind basis no_defaults all) ≡ gathered backend_name all = names_are basis no_defaults all in
    let count : length basis.backends ≡ length (backends_behind basis no_defaults all) =
    ap length (same_names all ∙ sym names) ∙ length-map (backends_behind basis no_defaults all) (λ (backend : BackendView). backend.name) in
    record {
      relays = or_default (IsFromTo 1 MAX_RELAYS) (globals_of all).relays 8 globals.relays (omega arith, omega arith);
      tries = or_default (IsFromTo 1 MAX_TRIES) (globals_of all).tries 8 globals.tries (omega arith, omega arith);
      socket = globals.socket;
      front_ranges = frontends_ok basis no_defaults all are.numbers nothing_said;
      back_ranges = backends_ok basis no_defaults all (journal_ok all are.numbers) are.numbers nothing_said;
      backends = subst (AreNames MAX_BACKENDS) (sym names) are.backends;
      leads = subst (λ most. All (LeadsWithin most) (frontends_behind basis no_defaults all)) count (frontends_lead basis no_defaults all);
      wants = backends_want basis no_defaults all;
    }
