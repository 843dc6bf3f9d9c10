-- What a line says in its section: HAProxy Configuration Manual 2.8, sections 2 to 4. The first fault from the left is told.
use Rattle.std.specs.Prelude.{ℕ, List, [], ◌∷◌, Option, Some, None, Result, Ok, Err, codes, bytes_eq, if◌then◌else◌}
use Rattle.lb_config_words.specs.declared.fault.SpellingFault.{SpellingFault}
use Rattle.lb_config_arguments.specs.declared.fault.Fault.{Fault}
use Rattle.lb_config_arguments.specs.declared.fault.Fault.TheVariants.{UnknownSection, UnknownWord, LeftOut}
use Rattle.lb_config_arguments.specs.Faults.{◌>>=◌}
use Rattle.lb_config_arguments.specs.Reading.{rest_of, word_at, word_or_end_at, end_at, name_in, name_at}
use Rattle.lb_config_arguments.specs.Rest.{Rest}
use Rattle.lb_config_conditions.specs.AclLines.{declaration_at}
use Rattle.lb_config_conditions.specs.RuleLines.{backend_rule_at, server_rule_at, cost_rule_at}
use Rattle.lb_config_parameters.specs.ServerLines.{server_at, default_server_at}
use Rattle.lb_config_keywords.specs.declared.keyword.ProxyKeyword.{ProxyKeyword}
use Rattle.lb_config_keywords.specs.declared.keyword.ProxyKeyword.TheVariants as Proxy
use Rattle.lb_config_keywords.specs.declared.keyword.ServerKeyword.{ServerKeyword}
use Rattle.lb_config_keywords.specs.declared.keyword.ServerKeyword.TheVariants as Server
use Rattle.lb_config_keywords.specs.declared.keyword.CommonKeyword.{CommonKeyword}
use Rattle.lb_config_keywords.specs.declared.keyword.CommonKeyword.TheVariants as Common
use Rattle.lb_config_keywords.specs.declared.second_word.OptionName.{OptionName}
use Rattle.lb_config_keywords.specs.declared.second_word.OptionName.TheVariants as Named
use Rattle.lb_config_lines.specs.declared.setting.Setting.{Setting}
use Rattle.lb_config_lines.specs.declared.setting.Setting.TheVariants as Set
use Rattle.lb_config_keywords.specs.declared.second_word.Timeout.{Timeout}
use Rattle.lb_config_lines.specs.declared.statement.Header.{Header}
use Rattle.lb_config_lines.specs.declared.statement.IgnoredWords.TheVariants.{First, FirstTwo}
use Rattle.lb_config_keywords.specs.declared.section.Section.{Section}
use Rattle.lb_config_keywords.specs.declared.section.Section.TheVariants.{Global, Defaults}
use Rattle.lb_config_lines.specs.declared.statement.Statement.{Statement}
use Rattle.lb_config_lines.specs.declared.statement.Statement.TheVariants as Says
use Rattle.lb_config_keywords.specs.Keywords.{proxy_keyword, proxy_stands_in, server_keyword, server_stands_in, common_keyword, common_stands_in, is_ignored, is_left_out}
use Rattle.lb_config_keywords.specs.Sections.{section_of, is_left_out_section, is_global}
use Rattle.lb_config_keywords.specs.SettingLines.{mode_at, balance_at, bind_at, default_backend_at, tuning_at, last_time_at, http_check_at, stats_socket_at, bare_end_at}
use Rattle.lb_config_lines.specs.StickLines.{end_or_one_of, stick_at}
use Rattle.lb_config_keywords.specs.SecondWords.{timeout_of, timeout_stands_in, is_ignored_timeout, option_of, option_stands_in, is_ignored_option}
use Rattle.lb_config_parameters.specs.StickTables.{stick_table_at}
use Rattle.lb_config_lines.specs.declared.common_line.TheConstants.{MAX_JOURNAL, MAX_RELAYS, MAX_TRIES}

-- what stands behind a keyword of requests
unfoldable pub proxy_setting_at : ProxyKeyword → Rest → Result Setting Fault
proxy_setting_at Proxy.Mode rest = mode_at rest >>= λ mode. Ok Set.HttpMode
proxy_setting_at Proxy.Balance rest = balance_at rest >>= λ balance. Ok (Set.Balance balance)
proxy_setting_at Proxy.Bind rest = bind_at rest >>= λ endpoint. Ok (Set.Bind endpoint)
proxy_setting_at Proxy.Acl rest = declaration_at rest >>= λ acl. Ok (Set.Acl acl)
proxy_setting_at Proxy.UseBackend rest = backend_rule_at rest >>= λ rule. Ok (Set.UseBackend rule)
proxy_setting_at Proxy.DefaultBackend rest = default_backend_at rest >>= λ name. Ok (Set.DefaultBackend name)

-- what stands behind a keyword of servers and pins
unfoldable pub server_setting_at : ServerKeyword → Rest → Result Setting Fault
server_setting_at Server.Server rest = server_at rest >>= λ server. Ok (Set.Server server)
server_setting_at Server.DefaultServer rest = default_server_at rest >>= λ options. Ok (Set.DefaultServer options)
server_setting_at Server.StickTable rest = stick_table_at rest >>= λ table. Ok (Set.StickTable table)
server_setting_at Server.Stick rest = stick_at rest >>= λ sample. Ok (Set.StickOn sample)
server_setting_at Server.UseServer rest = server_rule_at rest >>= λ rule. Ok (Set.UseServer rule)
server_setting_at Server.PinCost rest = cost_rule_at rest >>= λ rule. Ok (Set.PinCost rule)

abbrev pub timeout_named : Section → List ℕ → Option Timeout → Rest → Result Statement Fault
timeout_named section word (Some timeout) rest =
    if timeout_stands_in timeout section then (last_time_at rest >>= λ millis. Ok (Says.Setting (Set.Timeout timeout millis)))
    else Err UnknownWord
timeout_named section word None rest = if is_ignored_timeout word then Ok (Says.Ignored FirstTwo) else Err UnknownWord

-- what stands behind `timeout`
unfoldable pub timeout_at : Section → Rest → Result Statement Fault
timeout_at section rest = word_at rest >>= λ word. timeout_named section word.0 (timeout_of word.0) word.1

-- what stands behind an option; `forwardfor` has no arguments here
unfoldable pub option_setting_at : OptionName → Rest → Result Setting Fault
option_setting_at Named.HttpCheck rest = http_check_at rest >>= λ check. Ok (Set.HttpCheck check)
option_setting_at Named.AllBackups rest = end_at rest >>= λ end. Ok Set.AllBackups
option_setting_at Named.Evacuate rest = end_at rest >>= λ end. Ok Set.Evacuate
option_setting_at Named.ForwardFor rest = bare_end_at rest >>= λ end. Ok Set.ForwardFor

-- an option that has no meaning here
unfoldable pub other_option : List ℕ → Result Statement Fault
other_option word =
    if is_ignored_option word then Ok (Says.Ignored FirstTwo)
    else (if bytes_eq word (codes "tcp-check") then Err (LeftOut word) else Err UnknownWord)

abbrev pub option_named : Section → List ℕ → Option OptionName → Rest → Result Statement Fault
option_named section word (Some option) rest =
    if option_stands_in option section then (option_setting_at option rest >>= λ setting. Ok (Says.Setting setting))
    else Err UnknownWord
option_named section word None rest = other_option word

-- what stands behind `option`
unfoldable pub option_at : Section → Rest → Result Statement Fault
option_at section rest = word_at rest >>= λ word. option_named section word.0 (option_of word.0) word.1

-- what stands behind `stats`
unfoldable pub stats_behind : Section → List ℕ → Rest → Result Statement Fault
stats_behind section word rest =
    if bytes_eq word (codes "socket")
    then (if is_global section then (stats_socket_at rest >>= λ socket. Ok (Says.Setting (Set.StatsSocket socket))) else Err UnknownWord)
    else (if bytes_eq word (codes "timeout") then Ok (Says.Ignored FirstTwo) else Err (LeftOut word))

unfoldable pub stats_at : Section → Rest → Result Statement Fault
stats_at section rest = word_at rest >>= λ word. stats_behind section word.0 word.1

-- what stands behind a keyword of several kinds of lines, or of the whole program
unfoldable pub common_statement_at : CommonKeyword → Section → Rest → Result Statement Fault
common_statement_at Common.Timeout section rest = timeout_at section rest
common_statement_at Common.Option section rest = option_at section rest
common_statement_at Common.Stats section rest = stats_at section rest
common_statement_at Common.Relays section rest = tuning_at 1 MAX_RELAYS rest >>= λ number. Ok (Says.Setting (Set.Relays number))
common_statement_at Common.Tries section rest = tuning_at 1 MAX_TRIES rest >>= λ number. Ok (Says.Setting (Set.Tries number))
common_statement_at Common.Journal section rest = tuning_at 1 MAX_JOURNAL rest >>= λ number. Ok (Says.Setting (Set.Journal number))

-- a line whose first word is no keyword
unfoldable pub other_statement : List ℕ → Result Statement Fault
other_statement word =
    if is_left_out word then Err (LeftOut word) else (if is_ignored word then Ok (Says.Ignored First) else Err UnknownWord)

abbrev pub common_line : Section → List ℕ → Option CommonKeyword → Rest → Result Statement Fault
common_line section word (Some keyword) rest =
    if common_stands_in keyword section then common_statement_at keyword section rest else Err UnknownWord
common_line section word None rest = other_statement word

unfoldable pub common_line_at : Section → List ℕ → Rest → Result Statement Fault
common_line_at section word rest = common_line section word (common_keyword word) rest

abbrev pub server_line : Section → List ℕ → Option ServerKeyword → Rest → Result Statement Fault
server_line section word (Some keyword) rest =
    if server_stands_in keyword section then (server_setting_at keyword rest >>= λ setting. Ok (Says.Setting setting)) else Err UnknownWord
server_line section word None rest = common_line_at section word rest

unfoldable pub server_line_at : Section → List ℕ → Rest → Result Statement Fault
server_line_at section word rest = server_line section word (server_keyword word) rest

abbrev pub proxy_line : Section → List ℕ → Option ProxyKeyword → Rest → Result Statement Fault
proxy_line section word (Some keyword) rest =
    if proxy_stands_in keyword section then (proxy_setting_at keyword rest >>= λ setting. Ok (Says.Setting setting)) else Err UnknownWord
proxy_line section word None rest = server_line_at section word rest

-- a line of a section, by its first word
unfoldable pub section_line_at : Section → List ℕ → Rest → Result Statement Fault
section_line_at section word rest = proxy_line section word (proxy_keyword word) rest

-- a section's name: `global` has none, `defaults` may have one, the others have one
abbrev pub optional_name : Option (List ℕ) → Result (Option (List ℕ)) Fault
optional_name None = Ok None
optional_name (Some word) = name_in word >>= λ name. Ok (Some name)

unfoldable pub section_name_at : Section → Rest → Result (Option (List ℕ) × Rest) Fault
section_name_at Global rest = Ok (None, rest)
section_name_at Defaults rest = do
  word ← word_or_end_at rest
  name ← optional_name word.0
  Ok (name, word.1)
section_name_at _ rest = name_at rest >>= λ name. Ok (Some name.0, name.1)

-- a line that begins a section; `from` behind its name is left out
unfoldable pub header_at : Section → Rest → Result Header Fault
header_at section rest = do
  name ← section_name_at section rest
  next ← word_or_end_at name.1
  end ← end_or_one_of (codes "from" ∷ []) next.0
  Ok (record { section = section; name = name.0 })

-- a line that begins no section, before any section or in one
abbrev pub inner_line : Option Section → List ℕ → Rest → Result Statement Fault
inner_line None word rest = Err UnknownSection
inner_line (Some section) word rest = section_line_at section word rest

abbrev pub line_behind : Option Section → List ℕ → Option Section → Rest → Result Statement Fault
line_behind section word (Some begun) rest = header_at begun rest >>= λ header. Ok (Says.Header header)
line_behind section word None rest = if is_left_out_section word then Err (LeftOut word) else inner_line section word rest

unfoldable pub line_at : Option Section → Rest → Result Statement Fault
line_at section rest = word_at rest >>= λ word. line_behind section word.0 (section_of word.0) word.1

-- what the words say in the section, or before any
unfoldable pub statement_in : Option Section → List (List ℕ) → Option SpellingFault → Result Statement Fault
statement_in section words ending = line_at section (rest_of words ending)
