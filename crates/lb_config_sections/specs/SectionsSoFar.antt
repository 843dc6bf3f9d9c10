-- The lines of a configuration, each behind those before it: HAProxy Configuration Manual 2.8, sections 2.1 and 4.
use Rattle.std.specs.Prelude.{ℕ, Bool, false, List, [], ◌∷◌, ◌++◌, Option, Some, None, Result, Ok, Err, if◌then◌else◌}
use Rattle.std.specs.Option.{option_map, option_to_list}
use Rattle.lb_config_limits.specs.DeclaredView.{DeclaredView}
use Rattle.lb_config_limits.specs.Limits as limits
use Rattle.lb_config_keywords.specs.declared.section.Section.{Section}
use Rattle.lb_config_lines.specs.declared.statement.Header.{Header}
use Rattle.lb_config_lines.specs.declared.statement.IgnoredWords.{IgnoredWords}
use Rattle.lb_config_lines.specs.declared.statement.IgnoredWords.TheVariants.{First, FirstTwo}
use Rattle.lb_config_lines.specs.declared.statement.Statement.{Statement}
use Rattle.lb_config_lines.specs.declared.statement.Statement.TheVariants as Says
use Rattle.lb_config_lines.specs.declared.setting.Setting.{Setting}
use Rattle.lb_config_lines.specs.declared.setting.Setting.TheVariants as Set
use Rattle.lb_config_lines.specs.Lines.{statement_in}
use Rattle.lb_config_words.specs.LineView.{LineView}
use Rattle.lb_config_sections.specs.declared.cause.LocatedFault.{LocatedFault}
use Rattle.lb_config_sections.specs.Causes.{at_line, line_cause, limit_cause, ◌>>=◌}
use Rattle.lb_config_sections.specs.SectionsSoFarView.{SectionsSoFarView}
use Rattle.lb_config_sections.specs.SectionView.{SectionView, begun, with_setting}
use Rattle.lb_config_sections.specs.SectionsView.{SectionsView}
use Rattle.lb_config_sections.specs.Warnings.{warning_of}

-- before the first line
abbrev pub no_lines : SectionsSoFarView
no_lines = record { declared = limits.nothing; finished = []; current = None; warnings = [] }

-- the line may stand behind those before it
unfoldable pub declared_behind : SectionsSoFarView → LineView → Result SectionsSoFarView LocatedFault
declared_behind draft line =
    at_line line.number limit_cause (limits.take_line draft.declared line.words) >>= λ declared. Ok (record draft { declared = declared })

-- the kind of the section to which the next line belongs
abbrev pub section_kind : Option SectionView → Option Section
section_kind current = option_map (λ section. section.header.section) current

-- what the line says there
unfoldable pub statement_of : SectionsSoFarView → LineView → Result Statement LocatedFault
statement_of draft line = at_line line.number line_cause (statement_in (section_kind draft.current) line.words line.ending)

-- a section begins
abbrev pub with_header : SectionsSoFarView → Header → SectionsSoFarView
with_header draft header =
    record draft { finished = draft.finished ++ option_to_list draft.current; current = Some (begun header) }

-- something of the line is ignored
abbrev pub with_warning : SectionsSoFarView → IgnoredWords → LineView → SectionsSoFarView
with_warning draft which line = record draft { warnings = draft.warnings ++ warning_of which line ∷ [] }

-- the section has one setting more
abbrev pub with_line_setting : SectionsSoFarView → ℕ → Setting → SectionsSoFarView
with_line_setting draft line setting = record draft { current = option_map (λ section. with_setting section line setting) draft.current }

-- words stand behind the setting that are ignored: more than an address behind `stats socket`
abbrev pub has_ignored_words : Setting → Bool
has_ignored_words (Set.StatsSocket socket) = socket.has_more
has_ignored_words _ = false

-- the draft behind a line that says this
unfoldable pub with_statement : SectionsSoFarView → LineView → Statement → SectionsSoFarView
with_statement draft line (Says.Header header) = with_header draft header
with_statement draft line (Says.Ignored which) = with_warning draft which line
with_statement draft line (Says.Setting setting) =
    with_line_setting (if has_ignored_words setting then with_warning draft FirstTwo line else draft) line.number setting

-- the draft behind the line, or its fault
unfoldable pub take_line : SectionsSoFarView → LineView → Result SectionsSoFarView LocatedFault
take_line draft line = do
  next ← declared_behind draft line
  statement ← statement_of next line
  Ok (with_statement next line statement)

-- the draft behind the lines, or the first fault of one
unfoldable pub lines_behind : SectionsSoFarView → List LineView → Result SectionsSoFarView LocatedFault
lines_behind draft [] = Ok draft
lines_behind draft (line ∷ more) = take_line draft line >>= λ next. lines_behind next more

-- all sections so far
abbrev pub all_sections : SectionsSoFarView → List SectionView
all_sections draft = draft.finished ++ option_to_list draft.current

-- the sections that the lines are, or the first fault of a line
unfoldable pub sections_of : List LineView → Result SectionsView LocatedFault
sections_of lines = lines_behind no_lines lines >>= λ draft. Ok (record { sections = all_sections draft; warnings = draft.warnings })
