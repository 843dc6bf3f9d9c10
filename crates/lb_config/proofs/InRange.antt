-- Times and ports of the frontends and backends of a valid text.
use Rattle.std.proofs.Common.{ℕ, List, [], ◌∷◌, Option, Some, None, IfSome, All, option_to_list, arith}
use Rattle.std.proofs.lemmas.Bool.{cond_both}
use Rattle.std.proofs.lemmas.List.Elements.{All-append, All-cons, All-head, All-nil, All-push, All-tail}
use Rattle.check_workers_rule.specs.CheckRequests.{CheckLine}
use Rattle.lb_config_arguments.specs.Ranges.{IsFromTo, IsPort, IsTime}
use Rattle.lb_config_arguments.specs.declared.address.Endpoint.{Endpoint}
use Rattle.lb_config_keywords.specs.Sections.{is_back, is_front}
use Rattle.lb_config_keywords.specs.declared.second_word.Timeout.TheVariants as Time
use Rattle.lb_config_keywords.specs.declared.section.Section.{Section}
use Rattle.lb_config_keywords.specs.declared.section.Section.TheVariants as Kind
use Rattle.lb_config_lines.specs.declared.common_line.TheConstants.{MAX_JOURNAL}
use Rattle.lb_config_lines.specs.declared.setting.Setting.{Setting}
use Rattle.lb_config_lines.specs.declared.setting.Setting.TheVariants as Set
use Rattle.lb_config_parameters.specs.Options.{no_options}
use Rattle.lb_config_parameters.specs.OptionsView.{OptionsView}
use Rattle.lb_config_parameters.specs.Ranges.{IsTable}
use Rattle.lb_config_rules.specs.Parts.{bind_in, table_in}
use Rattle.lb_config_sections.specs.SectionView.{SectionView}
use Rattle.lb_config_sections.specs.declared.config_section.NumberedSetting.{NumberedSetting}
use Rattle.lb_config_values.specs.DefaultsLines.{defaults_of, no_defaults}
use Rattle.lb_config_values.specs.ServerView.{ServerView}
use Rattle.lb_config_values.specs.Servers.{default_options, server_in, servers_behind, with_default}
use Rattle.lb_config_values.specs.Values.{check_time, client_time, connect_time, no_timeouts, queue_time, server_time, times_behind}
use Rattle.lb_config_values.specs.declared.defaults.Defaults.{Defaults}
use Rattle.lb_config_values.specs.declared.timeouts.Timeouts.{Timeouts}
use Rattle.lb_config_valid.specs.Numbers.{HasNumbers}
use Rattle.lb_config_valid.specs.Valid.{OfEachSetting}
use Rattle.lb_config.specs.BasisView.{BasisView}
use Rattle.lb_config.specs.ConfigViews.{BackendView, FrontendView}
use Rattle.lb_config.specs.Configs.{back_at, backend_of, backends_behind, check_line_of, defaults_behind, front_at, frontend_of, frontends_behind, max_pins_of, own_place}
use Rattle.lb_config.specs.Kept.{kept_behind, may_follow, with_kept}
use Rattle.lb_config.specs.Ranges.{AreTimes, HasBackRanges, HasFrontRanges, HasServerRanges}
use Rattle.lb_config.specs.SaidInRange.{AreDefaults, HaveNumbers}
use Rattle.lb_config.proofs.LastSaid.{all_ok, either_ok, first_number, last_ok, more_numbers, or_default}

client_ok : (setting : Setting) → HasNumbers setting → IfSome (client_time setting) IsTime
client_ok (Set.Timeout Time.Client millis) is = is
client_ok _ is = tt

connect_ok : (setting : Setting) → HasNumbers setting → IfSome (connect_time setting) IsTime
connect_ok (Set.Timeout Time.Connect millis) is = is
connect_ok _ is = tt

server_ok : (setting : Setting) → HasNumbers setting → IfSome (server_time setting) IsTime
server_ok (Set.Timeout Time.Server millis) is = is
server_ok _ is = tt

queue_ok : (setting : Setting) → HasNumbers setting → IfSome (queue_time setting) IsTime
queue_ok (Set.Timeout Time.Queue millis) is = is
queue_ok _ is = tt

check_ok : (setting : Setting) → HasNumbers setting → IfSome (check_time setting) IsTime
check_ok (Set.Timeout Time.Check millis) is = is
check_ok _ is = tt

table_ok : (setting : Setting) → HasNumbers setting → IfSome (table_in setting) IsTable
table_ok (Set.StickTable table) is = is
table_ok _ is = tt

bind_ok : (setting : Setting) → HasNumbers setting → IfSome (bind_in setting) (λ endpoint. IsPort endpoint.port)
bind_ok (Set.Bind endpoint) is = is
bind_ok _ is = tt

times_ok : (timeouts : Timeouts) (settings : List NumberedSetting) → HaveNumbers settings → AreTimes timeouts →
    AreTimes (times_behind timeouts settings)
times_ok timeouts settings are is = record {
  client = last_ok IsTime client_time client_ok settings are timeouts.client is.client;
  connect = last_ok IsTime connect_time connect_ok settings are timeouts.connect is.connect;
  server = last_ok IsTime server_time server_ok settings are timeouts.server is.server;
  queue = last_ok IsTime queue_time queue_ok settings are timeouts.queue is.queue;
  check = last_ok IsTime check_time check_ok settings are timeouts.check is.check;
}

no_times : AreTimes no_timeouts
no_times = record { client = tt; connect = tt; server = tt; queue = tt; check = tt }

-- the `default-server` lines
default_ok : (options : OptionsView) (setting : Setting) → HasNumbers setting → IfSome options.interval IsTime →
    IfSome (with_default options setting).interval IsTime
default_ok options (Set.DefaultServer own) are is = either_ok IsTime own.interval options.interval are.interval is
default_ok options _ are is = is

default_options_ok : (options : OptionsView) (settings : List NumberedSetting) → HaveNumbers settings → IfSome options.interval IsTime →
    IfSome (default_options options settings).interval IsTime
default_options_ok options [] are is = is
default_options_ok options (numbered ∷ more) are is =
    default_options_ok (with_default options numbered.setting) more (more_numbers numbered more are)
    (default_ok options numbered.setting (first_number numbered more are) is)

pub nothing_said : AreDefaults no_defaults
nothing_said = record { timeouts = no_times; interval = tt }

pub defaults_of_ok : (settings : List NumberedSetting) → HaveNumbers settings → AreDefaults (defaults_of settings)
defaults_of_ok settings are = record {
  timeouts = times_ok no_timeouts settings are no_times;
  interval = default_options_ok no_options settings are tt;
}

defaults_behind_ok : (defaults : Defaults) (kind : Section) (settings : List NumberedSetting) → HaveNumbers settings →
    AreDefaults defaults → AreDefaults (defaults_behind defaults kind settings)
defaults_behind_ok defaults Kind.Defaults settings are is = defaults_of_ok settings are
defaults_behind_ok defaults _ settings are is = is

-- the server that a line is
one_server_ok : (m : ℕ) (check : Option CheckLine) (options : OptionsView) (setting : Setting) → HasNumbers setting →
    IfSome options.interval IsTime → All HasServerRanges (option_to_list (server_in m check options setting))
one_server_ok m check options (Set.Server line) are is =
    All-cons HasServerRanges _ [] (record {
      port = are.port;
      interval = or_default IsTime _ 2000 (either_ok IsTime line.options.interval options.interval are.options.interval is) (omega arith);
    }) (All-nil HasServerRanges)
one_server_ok m check options _ are is = All-nil HasServerRanges

servers_behind_ok : (m : ℕ) (check : Option CheckLine) (options : OptionsView) (settings : List NumberedSetting) →
    HaveNumbers settings → IfSome options.interval IsTime → All HasServerRanges (servers_behind m check options settings)
servers_behind_ok m check options [] are is = All-nil HasServerRanges
servers_behind_ok m check options (numbered ∷ more) are is =
    All-append HasServerRanges (option_to_list (server_in m check options numbered.setting))
    (servers_behind m check (with_default options numbered.setting) more)
    (one_server_ok m check options numbered.setting (first_number numbered more are) is)
    (servers_behind_ok m check (with_default options numbered.setting) more (more_numbers numbered more are)
    (default_ok options numbered.setting (first_number numbered more are) is))

-- those of them that are kept
kept_ok : (front servers : List ServerView) → All HasServerRanges front → All HasServerRanges servers →
    All HasServerRanges (kept_behind front servers)
kept_ok front [] are rest = are
kept_ok front (server ∷ more) are rest =
    kept_ok (with_kept front server) more
    (cond_both (may_follow front server) _ _ (λ (kept : List ServerView). All HasServerRanges kept)
    (λ e. All-push HasServerRanges front server are (All-head HasServerRanges server more rest)) (λ e. are))
    (All-tail HasServerRanges server more rest)

pub backend_ok : (basis : BasisView) (defaults : Defaults) (name : List ℕ) (settings : List NumberedSetting) →
    IsFromTo 1 MAX_JOURNAL basis.journal → HaveNumbers settings → AreDefaults defaults →
    HasBackRanges (backend_of basis defaults name settings)
backend_ok basis defaults name settings journal are is = record {
  timeouts = times_ok defaults.values.timeouts settings are is.timeouts;
  journal = journal;
  servers = kept_ok [] (servers_behind (max_pins_of settings) (check_line_of defaults settings) defaults.servers settings)
      (All-nil HasServerRanges)
      (servers_behind_ok (max_pins_of settings) (check_line_of defaults settings) defaults.servers settings are is.interval);
  table = last_ok IsTable table_in table_ok settings are None tt;
}

pub frontend_ok : (basis : BasisView) (defaults : Defaults) (own : Option ℕ) (name : List ℕ) (settings : List NumberedSetting) →
    HaveNumbers settings → AreDefaults defaults → HasFrontRanges (frontend_of basis defaults own name settings)
frontend_ok basis defaults own name settings are is = record {
  client_time = (times_ok defaults.values.timeouts settings are is.timeouts).client;
  binds = all_ok (λ (endpoint : Endpoint). IsPort endpoint.port) bind_in bind_ok settings are;
}

front_at_ok : (basis : BasisView) (defaults : Defaults) (kind : Section) (name : Option (List ℕ)) (settings : List NumberedSetting) →
    HaveNumbers settings → AreDefaults defaults → All HasFrontRanges (option_to_list (front_at basis defaults kind name settings))
front_at_ok basis defaults kind None settings are is = All-nil HasFrontRanges
front_at_ok basis defaults kind (Some name) settings are is =
    let own = own_place basis.backends kind name in
    cond_both (is_front kind) _ _ (λ (o : Option FrontendView). All HasFrontRanges (option_to_list o))
    (λ e. All-cons HasFrontRanges (frontend_of basis defaults own name settings) []
    (frontend_ok basis defaults own name settings are is) (All-nil HasFrontRanges))
    (λ e. All-nil HasFrontRanges)

back_at_ok : (basis : BasisView) (defaults : Defaults) (kind : Section) (name : Option (List ℕ)) (settings : List NumberedSetting) →
    IsFromTo 1 MAX_JOURNAL basis.journal → HaveNumbers settings → AreDefaults defaults →
    All HasBackRanges (option_to_list (back_at basis defaults kind name settings))
back_at_ok basis defaults kind None settings journal are is = All-nil HasBackRanges
back_at_ok basis defaults kind (Some name) settings journal are is =
    cond_both (is_back kind) _ _ (λ (o : Option BackendView). All HasBackRanges (option_to_list o))
    (λ e. All-cons HasBackRanges (backend_of basis defaults name settings) []
    (backend_ok basis defaults name settings journal are is) (All-nil HasBackRanges))
    (λ e. All-nil HasBackRanges)

section_numbers : (section : SectionView) (more : List SectionView) → OfEachSetting (λ section. HasNumbers) (section ∷ more) →
    HaveNumbers section.settings
section_numbers section more are =
    All-head (λ (one : SectionView). All (λ (numbered : NumberedSetting). HasNumbers numbered.setting) one.settings) section more are

more_sections : (section : SectionView) (more : List SectionView) → OfEachSetting (λ section. HasNumbers) (section ∷ more) →
    OfEachSetting (λ section. HasNumbers) more
more_sections section more are =
    All-tail (λ (one : SectionView). All (λ (numbered : NumberedSetting). HasNumbers numbered.setting) one.settings) section more are

pub frontends_ok : (basis : BasisView) (defaults : Defaults) (sections : List SectionView) →
    OfEachSetting (λ section. HasNumbers) sections → AreDefaults defaults → All HasFrontRanges (frontends_behind basis defaults sections)
frontends_ok basis defaults [] are is = All-nil HasFrontRanges
frontends_ok basis defaults (section ∷ more) are is =
    let here = section_numbers section more are in
    let next = defaults_behind defaults section.header.section section.settings in
    All-append HasFrontRanges (option_to_list (front_at basis defaults section.header.section section.header.name section.settings))
    (frontends_behind basis next more)
    (front_at_ok basis defaults section.header.section section.header.name section.settings here is)
    (frontends_ok basis next more (more_sections section more are)
    (defaults_behind_ok defaults section.header.section section.settings here is))

pub backends_ok : (basis : BasisView) (defaults : Defaults) (sections : List SectionView) →
    IsFromTo 1 MAX_JOURNAL basis.journal → OfEachSetting (λ section. HasNumbers) sections → AreDefaults defaults →
    All HasBackRanges (backends_behind basis defaults sections)
backends_ok basis defaults [] journal are is = All-nil HasBackRanges
backends_ok basis defaults (section ∷ more) journal are is =
    let here = section_numbers section more are in
    let next = defaults_behind defaults section.header.section section.settings in
    All-append HasBackRanges (option_to_list (back_at basis defaults section.header.section section.header.name section.settings))
    (backends_behind basis next more)
    (back_at_ok basis defaults section.header.section section.header.name section.settings journal here is)
    (backends_ok basis next more journal (more_sections section more are)
    (defaults_behind_ok defaults section.header.section section.settings here is))
