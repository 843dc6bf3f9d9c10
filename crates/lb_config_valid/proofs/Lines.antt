-- What a line says, and what it declares.
use Rattle.std.proofs.Common.{◌≡◌, ℕ, false, List, [], ◌∷◌, Option, Some, None, Result, Ok, Err, IfOk, refl, ap, codes, bytes_eq}
use Rattle.std.specs.Prelude.{⊤}
use Rattle.std.proofs.lemmas.Bool.{cond_both}
use Rattle.lb_types.specs.Names.{is_name}
use Rattle.lb_config_arguments.specs.declared.fault.Fault.{Fault}
use Rattle.lb_config_arguments.specs.declared.fault.Fault.TheVariants.{BadName}
use Rattle.lb_config_arguments.specs.Addresses.{server_endpoint_in}
use Rattle.lb_config_arguments.specs.Faults.{◌>>=◌}
use Rattle.lb_config_arguments.specs.Reading as reading
use Rattle.lb_config_arguments.specs.Reading.{end_at, name_at, rest_of, word_at, word_in, word_or_end_at}
use Rattle.lb_config_arguments.specs.Rest.{Rest}
use Rattle.lb_config_conditions.specs.AclLines.{declaration_at}
use Rattle.lb_config_conditions.specs.RuleLines.{backend_rule_at, cost_rule_at, server_rule_at}
use Rattle.lb_config_keywords.specs.declared.keyword.CommonKeyword.{CommonKeyword}
use Rattle.lb_config_keywords.specs.declared.keyword.CommonKeyword.TheVariants as Common
use Rattle.lb_config_keywords.specs.declared.keyword.ProxyKeyword.{ProxyKeyword}
use Rattle.lb_config_keywords.specs.declared.keyword.ProxyKeyword.TheVariants as Proxy
use Rattle.lb_config_keywords.specs.declared.keyword.ServerKeyword.{ServerKeyword}
use Rattle.lb_config_keywords.specs.declared.keyword.ServerKeyword.TheVariants as Server
use Rattle.lb_config_keywords.specs.declared.second_word.OptionName.{OptionName}
use Rattle.lb_config_keywords.specs.declared.second_word.OptionName.TheVariants as Named
use Rattle.lb_config_keywords.specs.declared.second_word.Timeout.{Timeout}
use Rattle.lb_config_keywords.specs.declared.section.Section.{Section}
use Rattle.lb_config_keywords.specs.declared.section.Section.TheVariants as Kind
use Rattle.lb_config_keywords.specs.Keywords.{common_keyword, common_stands_in, is_ignored, is_left_out, proxy_keyword, proxy_stands_in, server_keyword, server_stands_in}
use Rattle.lb_config_keywords.specs.Sections.{is_global, is_left_out_section, section_of}
use Rattle.lb_config_keywords.specs.SecondWords.{is_ignored_option, is_ignored_timeout, option_of, option_stands_in, timeout_of, timeout_stands_in}
use Rattle.lb_config_keywords.specs.SettingLines.{balance_at, bare_end_at, bind_at, default_backend_at, http_check_at, last_time_at, mode_at, stats_socket_at, tuning_at}
use Rattle.lb_config_limits.specs.Kinds.{kind_of, name_in}
use Rattle.lb_config_lines.specs.declared.common_line.TheConstants.{MAX_JOURNAL, MAX_RELAYS, MAX_TRIES}
use Rattle.lb_config_lines.specs.declared.setting.Setting.{Setting}
use Rattle.lb_config_lines.specs.declared.setting.Setting.TheVariants as Set
use Rattle.lb_config_lines.specs.declared.statement.Statement.{Statement}
use Rattle.lb_config_lines.specs.declared.statement.Statement.TheVariants as Says
use Rattle.lb_config_lines.specs.Lines.{common_line, common_line_at, common_statement_at, header_at, inner_line, line_at, line_behind, option_at, option_named, option_setting_at, optional_name, other_option, other_statement, proxy_line, proxy_setting_at, section_line_at, section_name_at, server_line, server_line_at, server_setting_at, statement_in, stats_at, stats_behind, timeout_at, timeout_named}
use Rattle.lb_config_lines.specs.StickLines.{end_or_one_of, stick_at}
use Rattle.lb_config_parameters.specs.Options.{options_at}
use Rattle.lb_config_parameters.specs.ServerLines.{default_server_at, server_at}
use Rattle.lb_config_parameters.specs.StickTables.{stick_table_at}
use Rattle.lb_config_words.specs.declared.fault.SpellingFault.{SpellingFault}
use Rattle.lb_types.specs.declared.limits.TheConstants.{MAX_COST}
use Rattle.lb_config_arguments.specs.Ranges.{IsFromTo, IsPort, IsTime}
use Rattle.lb_config_arguments.proofs.ReadRanges.{server_endpoint_ok}
use Rattle.lb_config_limits.proofs.DeclaredNames.{IsInner}
use Rattle.lb_config_limits.proofs.FirstWords.{named}
use Rattle.lb_config_parameters.specs.Ranges.{AreOptions, IsServer, IsTable}
use Rattle.lb_config_parameters.proofs.ReadRanges.{default_server_ok, options_ok, table_ok}
use Rattle.lb_config_valid.specs.Numbers.{HasNumbers, IsSocket}
use Rattle.lb_config_valid.proofs.LineKinds.{begun_by, keyword_by, no_section}
use Rattle.lb_config_valid.proofs.Settings.{bind_at_ok, cost_ok, last_time_ok, socket_ok, tuning_ok}
use Rattle.lb_config_arguments.proofs.KeptSteps.{bind_ok, cond_ok, then_ok, weaker}

-- the name behind the first word is the one that is read
name_words_ok : (word : List ℕ) (words : List (List ℕ)) (ending : Option SpellingFault) →
    IfOk (name_at (rest_of words ending)) (λ name. name_in (word ∷ words) ≡ Some name.0)
unfolding name_at word_at reading.name_in
name_words_ok word [] ending = tt
name_words_ok word (name ∷ words) ending =
    cond_both (is_name name) (Ok name) (Err BadName) (λ (r : Result (List ℕ) Fault).
    IfOk {T = List ℕ × Rest} (r >>= λ read. Ok (read, rest_of words ending)) (λ read. name_in (word ∷ name ∷ words) ≡ Some read.0))
    (λ e. named word name words e) (λ e. tt)

name_ok : (word : List ℕ) (rest : Rest) → IfOk (name_at rest) (λ name. name_in (word ∷ rest.words) ≡ Some name.0)
name_ok word rest = name_words_ok word rest.words rest.ending

-- the line begins with this word
abbrev pub Begins : List ℕ → List (List ℕ) → Type 0
Begins first words = (rest : List (List ℕ)) × (words ≡ first ∷ rest)

begins : (word first : List ℕ) (words : List (List ℕ)) → word ≡ first → Begins first (word ∷ words)
begins word first words e = (words, ap (λ one. one ∷ words) e)

-- a server's line declares its name
abbrev pub NamesServer : List (List ℕ) → Setting → Type 0
NamesServer words (Set.Server server) = Begins (codes "server") words × (name_in words ≡ Some server.name)
NamesServer words _ = ⊤

-- a setting with its numbers, and its name if it is a server
abbrev pub IsSet : List (List ℕ) → Setting → Type 0
IsSet words setting = HasNumbers setting × NamesServer words setting

-- a line inside a section
abbrev pub IsStated : List (List ℕ) → Statement → Type 0
IsStated words (Says.Header header) = ⊥
IsStated words (Says.Setting setting) = IsSet words setting
IsStated words (Says.Ignored which) = ⊤

server_line_ok : (word : List ℕ) (rest : Rest) → IfOk (server_at rest) (λ server. IsServer server × (name_in (word ∷ rest.words) ≡ Some server.name))
unfolding server_at
server_line_ok word rest =
    bind_ok (λ name. name_in (word ∷ rest.words) ≡ Some name.0) (λ server. IsServer server × (name_in (word ∷ rest.words) ≡ Some server.name)) (name_at rest) _ (name_ok word rest) (λ name is_named.
    then_ok (λ server. IsServer server × (name_in (word ∷ rest.words) ≡ Some server.name)) (word_at name.1) _ (λ address.
    bind_ok (λ endpoint. IsPort endpoint.port) (λ server. IsServer server × (name_in (word ∷ rest.words) ≡ Some server.name)) (server_endpoint_in address.0) _ (server_endpoint_ok address.0) (λ endpoint port.
    bind_ok AreOptions (λ server. IsServer server × (name_in (word ∷ rest.words) ≡ Some server.name)) (options_at false address.1) _ (options_ok false address.1) (λ options are.
    (record { port = port; options = are }, is_named)))))

proxy_ok : (words : List (List ℕ)) (keyword : ProxyKeyword) (rest : Rest) → IfOk (proxy_setting_at keyword rest) (IsSet words)
unfolding proxy_setting_at
proxy_ok words Proxy.Mode rest = then_ok (IsSet words) (mode_at rest) _ (λ mode. (tt, tt))
proxy_ok words Proxy.Balance rest = then_ok (IsSet words) (balance_at rest) _ (λ balance. (tt, tt))
proxy_ok words Proxy.Bind rest = bind_ok (λ endpoint. IsPort endpoint.port) (IsSet words) (bind_at rest) _ (bind_at_ok rest) (λ endpoint is. (is, tt))
proxy_ok words Proxy.Acl rest = then_ok (IsSet words) (declaration_at rest) _ (λ acl. (tt, tt))
proxy_ok words Proxy.UseBackend rest = then_ok (IsSet words) (backend_rule_at rest) _ (λ rule. (tt, tt))
proxy_ok words Proxy.DefaultBackend rest = then_ok (IsSet words) (default_backend_at rest) _ (λ name. (tt, tt))

server_ok : (word : List ℕ) (keyword : ServerKeyword) (rest : Rest) → server_keyword word ≡ Some keyword → IfOk (server_setting_at keyword rest) (IsSet (word ∷ rest.words))
unfolding server_setting_at
server_ok word Server.Server rest e =
    bind_ok (λ server. IsServer server × (name_in (word ∷ rest.words) ≡ Some server.name)) (IsSet (word ∷ rest.words)) (server_at rest) _ (server_line_ok word rest)
    (λ server is. (is.0, (begins word (codes "server") rest.words (keyword_by word Server.Server e), is.1)))
server_ok word Server.DefaultServer rest e = bind_ok AreOptions (IsSet (word ∷ rest.words)) (default_server_at rest) _ (default_server_ok rest) (λ options are. (are, tt))
server_ok word Server.StickTable rest e = bind_ok IsTable (IsSet (word ∷ rest.words)) (stick_table_at rest) _ (table_ok rest) (λ table is. (is, tt))
server_ok word Server.Stick rest e = then_ok (IsSet (word ∷ rest.words)) (stick_at rest) _ (λ sample. (tt, tt))
server_ok word Server.UseServer rest e = then_ok (IsSet (word ∷ rest.words)) (server_rule_at rest) _ (λ rule. (tt, tt))
server_ok word Server.PinCost rest e = bind_ok (λ rule. IsFromTo 1 MAX_COST rule.cost) (IsSet (word ∷ rest.words)) (cost_rule_at rest) _ (cost_ok rest) (λ rule is. (is, tt))

timeout_named_ok : (words : List (List ℕ)) (section : Section) (word : List ℕ) (timeout : Option Timeout) (rest : Rest) → IfOk (timeout_named section word timeout rest) (IsStated words)
timeout_named_ok words section word (Some timeout) rest =
    cond_ok (IsStated words) (timeout_stands_in timeout section) _ _
    (λ e. bind_ok IsTime (IsStated words) (last_time_at rest) _ (last_time_ok rest) (λ millis is. (is, tt))) (λ e. tt)
timeout_named_ok words section word None rest = cond_ok (IsStated words) (is_ignored_timeout word) _ _ (λ e. tt) (λ e. tt)

timeout_ok : (words : List (List ℕ)) (section : Section) (rest : Rest) → IfOk (timeout_at section rest) (IsStated words)
unfolding timeout_at
timeout_ok words section rest = then_ok (IsStated words) (word_at rest) _ (λ word. timeout_named_ok words section word.0 (timeout_of word.0) word.1)

option_setting_ok : (words : List (List ℕ)) (option : OptionName) (rest : Rest) → IfOk (option_setting_at option rest) (IsSet words)
unfolding option_setting_at
option_setting_ok words Named.HttpCheck rest = then_ok (IsSet words) (http_check_at rest) _ (λ check. (tt, tt))
option_setting_ok words Named.AllBackups rest = then_ok (IsSet words) (end_at rest) _ (λ end. (tt, tt))
option_setting_ok words Named.Evacuate rest = then_ok (IsSet words) (end_at rest) _ (λ end. (tt, tt))
option_setting_ok words Named.ForwardFor rest = then_ok (IsSet words) (bare_end_at rest) _ (λ end. (tt, tt))

other_option_ok : (words : List (List ℕ)) (word : List ℕ) → IfOk (other_option word) (IsStated words)
unfolding other_option
other_option_ok words word =
    cond_ok (IsStated words) (is_ignored_option word) _ _ (λ e. tt)
    (λ e. cond_ok (IsStated words) (bytes_eq word (codes "tcp-check")) _ _ (λ e. tt) (λ e. tt))

option_named_ok : (words : List (List ℕ)) (section : Section) (word : List ℕ) (option : Option OptionName) (rest : Rest) → IfOk (option_named section word option rest) (IsStated words)
option_named_ok words section word (Some option) rest =
    cond_ok (IsStated words) (option_stands_in option section) _ _
    (λ e. bind_ok (IsSet words) (IsStated words) (option_setting_at option rest) _ (option_setting_ok words option rest) (λ setting is. is)) (λ e. tt)
option_named_ok words section word None rest = other_option_ok words word

option_ok : (words : List (List ℕ)) (section : Section) (rest : Rest) → IfOk (option_at section rest) (IsStated words)
unfolding option_at
option_ok words section rest = then_ok (IsStated words) (word_at rest) _ (λ word. option_named_ok words section word.0 (option_of word.0) word.1)

stats_behind_ok : (words : List (List ℕ)) (section : Section) (word : List ℕ) (rest : Rest) → IfOk (stats_behind section word rest) (IsStated words)
unfolding stats_behind
stats_behind_ok words section word rest =
    cond_ok (IsStated words) (bytes_eq word (codes "socket")) _ _
    (λ e. cond_ok (IsStated words) (is_global section) _ _
    (λ e. bind_ok (λ socket. IsSocket socket.address) (IsStated words) (stats_socket_at rest) _ (socket_ok rest) (λ socket is. (is, tt))) (λ e. tt))
    (λ e. cond_ok (IsStated words) (bytes_eq word (codes "timeout")) _ _ (λ e. tt) (λ e. tt))

stats_ok : (words : List (List ℕ)) (section : Section) (rest : Rest) → IfOk (stats_at section rest) (IsStated words)
unfolding stats_at
stats_ok words section rest = then_ok (IsStated words) (word_at rest) _ (λ word. stats_behind_ok words section word.0 word.1)

common_ok : (words : List (List ℕ)) (keyword : CommonKeyword) (section : Section) (rest : Rest) → IfOk (common_statement_at keyword section rest) (IsStated words)
unfolding common_statement_at
common_ok words Common.Timeout section rest = timeout_ok words section rest
common_ok words Common.Option section rest = option_ok words section rest
common_ok words Common.Stats section rest = stats_ok words section rest
common_ok words Common.Relays section rest = bind_ok (IsFromTo 1 MAX_RELAYS) (IsStated words) (tuning_at 1 MAX_RELAYS rest) _ (tuning_ok 1 MAX_RELAYS rest) (λ number is. (is, tt))
common_ok words Common.Tries section rest = bind_ok (IsFromTo 1 MAX_TRIES) (IsStated words) (tuning_at 1 MAX_TRIES rest) _ (tuning_ok 1 MAX_TRIES rest) (λ number is. (is, tt))
common_ok words Common.Journal section rest = bind_ok (IsFromTo 1 MAX_JOURNAL) (IsStated words) (tuning_at 1 MAX_JOURNAL rest) _ (tuning_ok 1 MAX_JOURNAL rest) (λ number is. (is, tt))

other_ok : (words : List (List ℕ)) (word : List ℕ) → IfOk (other_statement word) (IsStated words)
unfolding other_statement
other_ok words word =
    cond_ok (IsStated words) (is_left_out word) _ _ (λ e. tt) (λ e. cond_ok (IsStated words) (is_ignored word) _ _ (λ e. tt) (λ e. tt))

common_line_ok : (words : List (List ℕ)) (section : Section) (word : List ℕ) (keyword : Option CommonKeyword) (rest : Rest) → IfOk (common_line section word keyword rest) (IsStated words)
common_line_ok words section word (Some keyword) rest =
    cond_ok (IsStated words) (common_stands_in keyword section) _ _ (λ e. common_ok words keyword section rest) (λ e. tt)
common_line_ok words section word None rest = other_ok words word

server_line_at_ok : (section : Section) (word : List ℕ) (keyword : Option ServerKeyword) (rest : Rest) → server_keyword word ≡ keyword → IfOk (server_line section word keyword rest) (IsStated (word ∷ rest.words))
unfolding common_line_at
server_line_at_ok section word (Some keyword) rest e =
    cond_ok (IsStated (word ∷ rest.words)) (server_stands_in keyword section) _ _
    (λ _. bind_ok (IsSet (word ∷ rest.words)) (IsStated (word ∷ rest.words)) (server_setting_at keyword rest) _ (server_ok word keyword rest e) (λ setting is. is)) (λ _. tt)
server_line_at_ok section word None rest e = common_line_ok (word ∷ rest.words) section word (common_keyword word) rest

proxy_line_ok : (section : Section) (word : List ℕ) (keyword : Option ProxyKeyword) (rest : Rest) → IfOk (proxy_line section word keyword rest) (IsStated (word ∷ rest.words))
unfolding server_line_at
proxy_line_ok section word (Some keyword) rest =
    cond_ok (IsStated (word ∷ rest.words)) (proxy_stands_in keyword section) _ _
    (λ _. bind_ok (IsSet (word ∷ rest.words)) (IsStated (word ∷ rest.words)) (proxy_setting_at keyword rest) _ (proxy_ok (word ∷ rest.words) keyword rest) (λ setting is. is)) (λ _. tt)
proxy_line_ok section word None rest = server_line_at_ok section word (server_keyword word) rest refl

section_line_ok : (section : Section) (word : List ℕ) (rest : Rest) → IfOk (section_line_at section word rest) (IsStated (word ∷ rest.words))
unfolding section_line_at
section_line_ok section word rest = proxy_line_ok section word (proxy_keyword word) rest

inner_ok : (section : Option Section) (word : List ℕ) (rest : Rest) → IfOk (inner_line section word rest) (IsStated (word ∷ rest.words))
inner_ok None word rest = tt
inner_ok (Some section) word rest = section_line_ok section word rest

-- a section with servers declares its name
abbrev pub IsBegun : List (List ℕ) → Section → Option (List ℕ) → Type 0
IsBegun words Kind.Backend name = Begins (codes "backend") words × (name_in words ≡ name)
IsBegun words Kind.Listen name = Begins (codes "listen") words × (name_in words ≡ name)
IsBegun words _ name = ⊤

-- what a line says, by its words
abbrev pub IsSaid : List (List ℕ) → Statement → Type 0
IsSaid words (Says.Header header) = IsBegun words header.section header.name
IsSaid words (Says.Setting setting) = IsInner (kind_of words) × IsSet words setting
IsSaid words (Says.Ignored which) = IsInner (kind_of words)

section_name_ok : (word : List ℕ) (section : Section) (rest : Rest) → section_of word ≡ Some section →
    IfOk (section_name_at section rest) (λ name. IsBegun (word ∷ rest.words) section name.0)
unfolding section_name_at
section_name_ok word Kind.Global rest e = tt
section_name_ok word Kind.Defaults rest e =
    then_ok (λ name. ⊤) (word_or_end_at rest) _ (λ next. then_ok (λ name. ⊤) (optional_name next.0) _ (λ name. tt))
section_name_ok word Kind.Frontend rest e = then_ok (λ name. ⊤) (name_at rest) _ (λ name. tt)
section_name_ok word Kind.Backend rest e =
    bind_ok (λ name. name_in (word ∷ rest.words) ≡ Some name.0) (λ name. IsBegun (word ∷ rest.words) Kind.Backend name.0) (name_at rest) _ (name_ok word rest)
    (λ name is. (begins word (codes "backend") rest.words (begun_by word Kind.Backend e), is))
section_name_ok word Kind.Listen rest e =
    bind_ok (λ name. name_in (word ∷ rest.words) ≡ Some name.0) (λ name. IsBegun (word ∷ rest.words) Kind.Listen name.0) (name_at rest) _ (name_ok word rest)
    (λ name is. (begins word (codes "listen") rest.words (begun_by word Kind.Listen e), is))

header_ok : (word : List ℕ) (section : Section) (rest : Rest) → section_of word ≡ Some section →
    IfOk (header_at section rest) (λ header. IsBegun (word ∷ rest.words) header.section header.name)
unfolding header_at
header_ok word section rest e =
    bind_ok (λ name. IsBegun (word ∷ rest.words) section name.0) (λ header. IsBegun (word ∷ rest.words) header.section header.name) (section_name_at section rest) _
    (section_name_ok word section rest e) (λ name is.
    then_ok (λ header. IsBegun (word ∷ rest.words) header.section header.name) (word_or_end_at name.1) _ (λ next.
    then_ok (λ header. IsBegun (word ∷ rest.words) header.section header.name) (end_or_one_of (codes "from" ∷ []) next.0) _ (λ end. is)))

said : (words : List (List ℕ)) (statement : Statement) → IsInner (kind_of words) → IsStated words statement → IsSaid words statement
said words (Says.Header header) inner is = absurd is
said words (Says.Setting setting) inner is = (inner, is)
said words (Says.Ignored which) inner is = inner

behind_ok : (section : Option Section) (word : List ℕ) (begun : Option Section) (rest : Rest) → section_of word ≡ begun →
    IfOk (line_behind section word begun rest) (IsSaid (word ∷ rest.words))
behind_ok section word (Some begun) rest e =
    bind_ok (λ header. IsBegun (word ∷ rest.words) header.section header.name) (IsSaid (word ∷ rest.words)) (header_at begun rest) _ (header_ok word begun rest e) (λ header is. is)
behind_ok section word None rest e =
    cond_ok (IsSaid (word ∷ rest.words)) (is_left_out_section word) _ _ (λ _. tt)
    (λ _. weaker (IsStated (word ∷ rest.words)) (IsSaid (word ∷ rest.words)) (inner_line section word rest) (inner_ok section word rest)
    (λ statement is. said (word ∷ rest.words) statement (no_section word rest.words e) is))

pub statement_ok : (section : Option Section) (words : List (List ℕ)) (ending : Option SpellingFault) → IfOk (statement_in section words ending) (IsSaid words)
unfolding statement_in line_at word_at
statement_ok section [] ending = tt
statement_ok section (word ∷ words) ending = behind_ok section word (section_of word) (rest_of words ending) refl
