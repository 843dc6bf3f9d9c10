-- Sections line by line: names once, numbers in their ranges.
use Rattle.std.proofs.Common.{◌≡◌, ℕ, ◌≤◌, Bool, true, false, cond, List, [], ◌∷◌, ◌++◌, length, Option, Some, None, Result, Ok, Err, IfOk, IfSome, All, refl, sym, ap, subst, ◌∙◌, arith, append_assoc, append-nil, codes, option_to_list}
use Rattle.std.proofs.lemmas.List.Elements.{All-append, All-cons, All-nil, All-push}
use Rattle.lb_types.specs.declared.limits.TheConstants.{MAX_SERVERS}
use Rattle.lb_config_keywords.specs.declared.section.Section.{Section}
use Rattle.lb_config_keywords.specs.declared.section.Section.TheVariants as Kind
use Rattle.lb_config_limits.specs.declared.declarations.TheConstants.{MAX_BACKENDS}
use Rattle.lb_config_limits.specs.declared.fault.LimitFault.{LimitFault}
use Rattle.lb_config_limits.specs.DeclaredView.{DeclaredView}
use Rattle.lb_config_limits.specs.Kinds.{kind_of, name_in}
use Rattle.lb_config_limits.specs.Limits as limits
use Rattle.lb_config_limits.proofs.DeclaredNames.{AddsBackend, AddsIf, AddsServer, AreKnown, Grows, IsInner, IsTaken, line_ok, none_known, one_more_known, still_known}
use Rattle.lb_config_limits.proofs.FirstWords.{adds_backend, adds_listen, adds_server, keeps_servers}
use Rattle.lb_config_lines.specs.declared.setting.Setting.{Setting}
use Rattle.lb_config_lines.specs.declared.setting.Setting.TheVariants as Set
use Rattle.lb_config_lines.specs.declared.statement.Header.{Header}
use Rattle.lb_config_lines.specs.declared.statement.IgnoredWords.TheVariants.{FirstTwo}
use Rattle.lb_config_lines.specs.declared.statement.Statement.{Statement}
use Rattle.lb_config_lines.specs.declared.statement.Statement.TheVariants as Says
use Rattle.lb_config_lines.specs.Lines.{statement_in}
use Rattle.lb_config_sections.specs.declared.cause.Cause.{Cause}
use Rattle.lb_config_sections.specs.declared.cause.LocatedFault.{LocatedFault}
use Rattle.lb_config_sections.specs.declared.config_section.NumberedSetting.{NumberedSetting}
use Rattle.lb_config_sections.specs.declared.warning.Warning.{Warning}
use Rattle.lb_config_sections.specs.Causes.{◌>>=◌, at_line, limit_cause, line_cause}
use Rattle.lb_config_sections.specs.Names.{backend_name, gathered, name_of_kind, server_name}
use Rattle.lb_config_sections.specs.SectionView.{SectionView}
use Rattle.lb_config_sections.specs.SectionsSoFar.{all_sections, declared_behind, has_ignored_words, lines_behind, no_lines, section_kind, sections_of, statement_of, take_line, with_header, with_line_setting, with_statement, with_warning}
use Rattle.lb_config_sections.specs.SectionsSoFarView.{SectionsSoFarView}
use Rattle.lb_config_words.specs.LineView.{LineView}
use Rattle.lb_config_valid.specs.Names.{AreNames, names_of}
use Rattle.lb_config_valid.specs.Numbers.{HasNumbers}
use Rattle.lb_config_valid.proofs.Lines.{Begins, IsBegun, IsSaid, IsSet, NamesServer, statement_ok}

pub bind_ok : {A B : Type 0} (P : A → Type 0) (Q : B → Type 0) (r : Result A LocatedFault) (f : A → Result B LocatedFault) →
    IfOk r P → ((x : A) → P x → IfOk (f x) Q) → IfOk (r >>= f) Q
bind_ok P Q (Ok x) f first second = second x first
bind_ok P Q (Err e) f first second = tt

pub then_ok : {A B : Type 0} (Q : B → Type 0) (r : Result A LocatedFault) (f : A → Result B LocatedFault) → ((x : A) → IfOk (f x) Q) → IfOk (r >>= f) Q
then_ok Q (Ok x) f second = second x
then_ok Q (Err e) f second = tt

at_line_ok : {A F : Type 0} (P : A → Type 0) (number : ℕ) (cause : F → Cause) (r : Result A F) → IfOk r P → IfOk (at_line number cause r) P
at_line_ok P number cause (Ok x) is = is
at_line_ok P number cause (Err e) is = tt

gathered-append : {X : Type 0} (f : X → Option (List ℕ)) (xs ys : List X) → gathered f (xs ++ ys) ≡ gathered f xs ++ gathered f ys
gathered-append f [] ys = refl
gathered-append f (x ∷ xs) ys =
    ap (λ more. option_to_list (f x) ++ more) (gathered-append f xs ys) ∙ sym (append_assoc (option_to_list (f x)) (gathered f xs) (gathered f ys))

-- a section that is whole
pub record IsSection (section : SectionView) : Type 0 where
  pub servers : AreNames MAX_SERVERS (names_of section).servers
  pub numbers : All (λ numbered. HasNumbers numbered.setting) section.settings

-- the section to which the next line belongs
record IsCurrent (set : List (List ℕ)) (section : SectionView) : Type 0 where
  servers : AreKnown MAX_SERVERS set (names_of section).servers
  numbers : All (λ numbered. HasNumbers numbered.setting) section.settings

-- what the lines so far are
record IsDraft (draft : SectionsSoFarView) : Type 0 where
  backends : AreKnown MAX_BACKENDS draft.declared.backends (gathered backend_name draft.finished ++ gathered backend_name (option_to_list draft.current))
  few_servers : length draft.declared.servers ≤ MAX_SERVERS
  finished : All IsSection draft.finished
  current : IfSome draft.current (IsCurrent draft.declared.servers)

known_names : (most : ℕ) (set names : List (List ℕ)) → AreKnown most set names → AreNames most names
known_names most set names is = record { few = omega (arith, is.few, is.counted); distinct = is.distinct }

whole : (set : List (List ℕ)) (current : Option SectionView) → IfSome current (IsCurrent set) → All IsSection (option_to_list current)
whole set None is = All-nil IsSection
whole set (Some section) is =
    All-cons IsSection section [] (record { servers = known_names MAX_SERVERS set (names_of section).servers is.servers; numbers = is.numbers }) (All-nil IsSection)

-- what a line takes, by its first word
taken_backend : (words : List (List ℕ)) (name : Option (List ℕ)) (old new : List (List ℕ)) → Begins (codes "backend") words →
    AddsBackend (kind_of words) name old new → AddsIf MAX_BACKENDS name old new
taken_backend words name old new is adds =
    adds_backend (codes "backend") is.0 name old new refl (subst (λ all. AddsBackend (kind_of all) name old new) is.1 adds)

taken_listen : (words : List (List ℕ)) (name : Option (List ℕ)) (old new : List (List ℕ)) → Begins (codes "listen") words →
    AddsBackend (kind_of words) name old new → AddsIf MAX_BACKENDS name old new
taken_listen words name old new is adds =
    adds_listen (codes "listen") is.0 name old new refl (subst (λ all. AddsBackend (kind_of all) name old new) is.1 adds)

taken_server : (words : List (List ℕ)) (name : Option (List ℕ)) (old new : List (List ℕ)) → Begins (codes "server") words →
    AddsServer (kind_of words) name old new → AddsIf MAX_SERVERS name old new
taken_server words name old new is adds =
    adds_server (codes "server") is.0 name old new refl (subst (λ all. AddsServer (kind_of all) name old new) is.1 adds)

-- the names, and one more where there is one
maybe_one_more : (most : ℕ) (name : Option (List ℕ)) (old new names : List (List ℕ)) → Grows most old new → AddsIf most name old new → AreKnown most old names →
    AreKnown most new (names ++ (option_to_list name ++ []))
maybe_one_more most None old new names grows adds is = rw append-nil (still_known most old new names grows is)
maybe_one_more most (Some name) old new names grows adds is = one_more_known most name old new names adds is

not_one_more : (most : ℕ) (old new names : List (List ℕ)) → Grows most old new → AreKnown most old names → AreKnown most new (names ++ [])
not_one_more most old new names grows is = rw append-nil (still_known most old new names grows is)

header_known : (words : List (List ℕ)) (section : Section) (name : Option (List ℕ)) (old new : DeclaredView) (names : List (List ℕ)) →
    IsBegun words section name → IsTaken (kind_of words) (name_in words) old new → AreKnown MAX_BACKENDS old.backends names →
    AreKnown MAX_BACKENDS new.backends (names ++ (option_to_list (name_of_kind section name) ++ []))
header_known words Kind.Backend name old new names begins taken is =
    maybe_one_more MAX_BACKENDS name old.backends new.backends names taken.backends
    (taken_backend words name old.backends new.backends begins.0 (subst (λ given. AddsBackend (kind_of words) given old.backends new.backends) begins.1 taken.backend)) is
header_known words Kind.Listen name old new names begins taken is =
    maybe_one_more MAX_BACKENDS name old.backends new.backends names taken.backends
    (taken_listen words name old.backends new.backends begins.0 (subst (λ given. AddsBackend (kind_of words) given old.backends new.backends) begins.1 taken.backend)) is
header_known words Kind.Global name old new names begins taken is = not_one_more MAX_BACKENDS old.backends new.backends names taken.backends is
header_known words Kind.Defaults name old new names begins taken is = not_one_more MAX_BACKENDS old.backends new.backends names taken.backends is
header_known words Kind.Frontend name old new names begins taken is = not_one_more MAX_BACKENDS old.backends new.backends names taken.backends is

header_ok : (words : List (List ℕ)) (draft : SectionsSoFarView) (declared : DeclaredView) (header : Header) → IsDraft draft →
    IsTaken (kind_of words) (name_in words) draft.declared declared → IsBegun words header.section header.name →
    IsDraft (with_header (record draft { declared = declared }) header)
header_ok words draft declared header is taken begins = record {
  backends = rw (gathered-append backend_name draft.finished (option_to_list draft.current))
      (header_known words header.section header.name draft.declared declared
      (gathered backend_name draft.finished ++ gathered backend_name (option_to_list draft.current)) begins taken is.backends);
  few_servers = taken.few_servers;
  finished = All-append IsSection draft.finished (option_to_list draft.current) is.finished (whole draft.declared.servers draft.current is.current);
  current = record {
    servers = none_known MAX_SERVERS declared.servers taken.few_servers;
    numbers = All-nil (λ (numbered : NumberedSetting). HasNumbers numbered.setting);
  };
}

current_grows : (old new : List (List ℕ)) (current : Option SectionView) → Grows MAX_SERVERS old new → IfSome current (IsCurrent old) → IfSome current (IsCurrent new)
current_grows old new None grows is = tt
current_grows old new (Some section) grows is =
    record { servers = still_known MAX_SERVERS old new (names_of section).servers grows is.servers; numbers = is.numbers }

ignored_ok : (words : List (List ℕ)) (draft : SectionsSoFarView) (declared : DeclaredView) (warnings : List Warning) → IsDraft draft →
    IsTaken (kind_of words) (name_in words) draft.declared declared → IsInner (kind_of words) →
    IsDraft (record draft { declared = declared; warnings = warnings })
ignored_ok words draft declared warnings is taken inner = record {
  backends = still_known MAX_BACKENDS draft.declared.backends declared.backends
      (gathered backend_name draft.finished ++ gathered backend_name (option_to_list draft.current)) taken.backends is.backends;
  few_servers = taken.few_servers;
  finished = is.finished;
  current = current_grows draft.declared.servers declared.servers draft.current
      (keeps_servers (kind_of words) draft.declared.servers declared.servers inner taken.servers) is.current;
}

server_known : (words : List (List ℕ)) (setting : Setting) (old new : DeclaredView) (names : List (List ℕ)) →
    NamesServer words setting → IsInner (kind_of words) → IsTaken (kind_of words) (name_in words) old new → AreKnown MAX_SERVERS old.servers names →
    AreKnown MAX_SERVERS new.servers (names ++ (option_to_list (server_name setting) ++ []))
server_known words (Set.Server server) old new names named inner taken is =
    maybe_one_more MAX_SERVERS (Some server.name) old.servers new.servers names (keeps_servers (kind_of words) old.servers new.servers inner taken.servers)
    (taken_server words (Some server.name) old.servers new.servers named.0 (subst (λ given. AddsServer (kind_of words) given old.servers new.servers) named.1 taken.server)) is
server_known words _ old new names named inner taken is =
    not_one_more MAX_SERVERS old.servers new.servers names (keeps_servers (kind_of words) old.servers new.servers inner taken.servers) is

setting_ok : (words : List (List ℕ)) (old new : DeclaredView) (finished : List SectionView) (current : Option SectionView) (before warnings : List Warning) (line : ℕ) (setting : Setting) →
    IsDraft (record { declared = old; finished = finished; current = current; warnings = before }) →
    IsTaken (kind_of words) (name_in words) old new → IsInner (kind_of words) → IsSet words setting →
    IsDraft (with_line_setting (record { declared = new; finished = finished; current = current; warnings = warnings }) line setting)
setting_ok words old new finished None before warnings line setting is taken inner set = record {
  backends = still_known MAX_BACKENDS old.backends new.backends (gathered backend_name finished ++ []) taken.backends is.backends;
  few_servers = taken.few_servers;
  finished = is.finished;
  current = tt;
}
setting_ok words old new finished (Some section) before warnings line setting is taken inner set = record {
  backends = still_known MAX_BACKENDS old.backends new.backends (gathered backend_name finished ++ gathered backend_name (section ∷ [])) taken.backends is.backends;
  few_servers = taken.few_servers;
  finished = is.finished;
  current = record {
    servers = rw (gathered-append (λ (numbered : NumberedSetting). server_name numbered.setting) section.settings (record { line = line; setting = setting } ∷ []))
        (server_known words setting old new (names_of section).servers set.1 inner taken is.current.servers);
    numbers = All-push (λ (numbered : NumberedSetting). HasNumbers numbered.setting) section.settings (record { line = line; setting = setting }) is.current.numbers set.0;
  };
}

-- with a warning or without one
setting_either : (ignores : Bool) (words : List (List ℕ)) (draft : SectionsSoFarView) (declared : DeclaredView) (line : LineView) (setting : Setting) → IsDraft draft →
    IsTaken (kind_of words) (name_in words) draft.declared declared → IsInner (kind_of words) → IsSet words setting →
    IsDraft (with_line_setting (cond ignores (with_warning (record draft { declared = declared }) FirstTwo line) (record draft { declared = declared })) line.number setting)
setting_either true words draft declared line setting is taken inner set =
    setting_ok words draft.declared declared draft.finished draft.current draft.warnings _ line.number setting is taken inner set
setting_either false words draft declared line setting is taken inner set =
    setting_ok words draft.declared declared draft.finished draft.current draft.warnings draft.warnings line.number setting is taken inner set

statement_kept : (draft : SectionsSoFarView) (declared : DeclaredView) (line : LineView) (statement : Statement) → IsDraft draft →
    IsTaken (kind_of line.words) (name_in line.words) draft.declared declared → IsSaid line.words statement →
    IsDraft (with_statement (record draft { declared = declared }) line statement)
unfolding with_statement
statement_kept draft declared line (Says.Header header) is taken said = header_ok line.words draft declared header is taken said
statement_kept draft declared line (Says.Ignored which) is taken said = ignored_ok line.words draft declared _ is taken said
statement_kept draft declared line (Says.Setting setting) is taken said = setting_either (has_ignored_words setting) line.words draft declared line setting is taken said.0 said.1

step_ok : (draft : SectionsSoFarView) (line : LineView) (r : Result DeclaredView LimitFault) → IsDraft draft →
    IfOk r (IsTaken (kind_of line.words) (name_in line.words) draft.declared) →
    IfOk ((at_line line.number limit_cause r >>= λ declared. Ok (record draft { declared = declared })) >>= λ next.
    statement_of next line >>= λ statement. Ok (with_statement next line statement)) IsDraft
unfolding statement_of
step_ok draft line (Err fault) is taken = tt
step_ok draft line (Ok declared) is taken =
    bind_ok (IsSaid line.words) IsDraft (at_line line.number line_cause (statement_in (section_kind draft.current) line.words line.ending)) _
    (at_line_ok (IsSaid line.words) line.number line_cause (statement_in (section_kind draft.current) line.words line.ending)
    (statement_ok (section_kind draft.current) line.words line.ending))
    (λ statement said. statement_kept draft declared line statement is taken said)

take_ok : (draft : SectionsSoFarView) (line : LineView) → IsDraft draft → IfOk (take_line draft line) IsDraft
unfolding take_line declared_behind
take_ok draft line is =
    step_ok draft line (limits.take_line draft.declared line.words) is (line_ok draft.declared line.words is.backends.few is.few_servers)

lines_ok : (draft : SectionsSoFarView) (lines : List LineView) → IsDraft draft → IfOk (lines_behind draft lines) IsDraft
unfolding lines_behind
lines_ok draft [] is = is
lines_ok draft (line ∷ more) is =
    bind_ok IsDraft IsDraft (take_line draft line) (λ next. lines_behind next more) (take_ok draft line is) (λ next holds. lines_ok next more holds)

nothing_read : IsDraft no_lines
nothing_read = record {
  backends = none_known MAX_BACKENDS [] (omega arith);
  few_servers = omega arith;
  finished = All-nil IsSection;
  current = tt;
}

-- the sections of lines without a fault
pub record AreSections (sections : List SectionView) : Type 0 where
  pub backends : AreNames MAX_BACKENDS (gathered backend_name sections)
  pub each : All IsSection sections

finished_ok : (draft : SectionsSoFarView) → IsDraft draft → AreSections (all_sections draft)
finished_ok draft is = record {
  backends = rw (gathered-append backend_name draft.finished (option_to_list draft.current))
      (known_names MAX_BACKENDS draft.declared.backends (gathered backend_name draft.finished ++ gathered backend_name (option_to_list draft.current)) is.backends);
  each = All-append IsSection draft.finished (option_to_list draft.current) is.finished (whole draft.declared.servers draft.current is.current);
}

pub sections_ok : (lines : List LineView) → IfOk (sections_of lines) (λ read. AreSections read.sections)
unfolding sections_of
sections_ok lines = bind_ok IsDraft (λ read. AreSections read.sections) (lines_behind no_lines lines) _ (lines_ok no_lines lines nothing_read) (λ draft is. finished_ok draft is)
